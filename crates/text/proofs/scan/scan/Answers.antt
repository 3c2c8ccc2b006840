use Rattle.std.proofs.Common.{rules}
use Rattle.std.proofs.lemmas.Result.{err_from_is_err_and}
use Rattle.text.proofs.Cuts.{ends, offends, open_at_end}
use Rattle.text.proofs.scan.scan.Goals as goal

pub returns-in_err-next : goal.returns-in_err-next
returns-in_err-next c =
    let p = err_from_is_err_and c.from_residual.result c.from_residual.ensures.1 in
    rw (p.1, p.2) (offends _ _ _ _ c.loop-at.invariant c.loop-at-test.true c.lf_at.ensures _ c.in_err-next.ensures)

pub cut-requires-clause-ended : goal.cut-requires-clause-ended
cut-requires-clause-ended c = search (rules, ends)

pub returns-in-Quoted : goal.returns-in-Quoted
returns-in-Quoted c = search (rules, open_at_end)
