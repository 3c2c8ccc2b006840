use Rattle.std.proofs.Common.{sym, arith}
use Rattle.std.proofs.lemmas.Int.{ints, to_z-of_z}
use Rattle.requirement.proofs.Reach.{both_ascend}
use Rattle.judging.proofs.BracketHolds.{least_under_most}
use Rattle.judging.proofs.bounds.Goals as goal

pub overflow_sub-result : goal.overflow_sub-result
overflow_sub-result g c =
    let k = g.K.Knowledge.answers c.args.knowledge.now in
    let rules = g.met.K.Knowledge.rules c.args.knowledge.now in
    let t = c.args.tolerance.now in
    let s = c.in-Some-Some in
    let before = both_ascend t.lower t.upper s.lower s.upper t.ascends (sym s.ensures) (sym s.ensures') in
    let under = least_under_most k rules s.lower s.upper c.args.reading before in
    grind (arith, ints, to_z-of_z, under)
