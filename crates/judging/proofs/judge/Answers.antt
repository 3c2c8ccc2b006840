use Rattle.std.proofs.Common.{◌≡◌}
use Rattle.std.proofs.lemmas.Result.{err_from_is_err_and}
use Rattle.std.proofs.lemmas.Int.{to_z-of_z}
use Rattle.faults.proofs.Checks.{its_value}
use Rattle.acceptance.specs.Guard.{width_of, width_refusal}
use Rattle.judging.proofs.Order.{by_limits, answered}
use Rattle.judging.proofs.judge.Goals as goal

pub returns-in_err-acceptance : goal.returns-in_err-acceptance
returns-in_err-acceptance g c =
    let k = g.K.Knowledge.answers c.args.knowledge.now in
    let rules = g.met.K.Knowledge.rules c.args.knowledge.now in
    let f = c.ranges.reading in
    let f' = c.ranges.expanded in
    let p = err_from_is_err_and c.from_residual-in_err-acceptance.result c.from_residual-in_err-acceptance.ensures.1 in
    rw (p.1, p.2)
    (by_limits k rules c.args.requirement.now c.args.expanded c.args.reading c.in_ok-bracket.bracket
    (simp to_z-of_z at c.in_ok-bracket.ensures) _ (simp to_z-of_z at c.in_err-acceptance.ensures))

pub returns : goal.returns
returns g c =
    let k = g.K.Knowledge.answers c.args.knowledge.now in
    let rules = g.met.K.Knowledge.rules c.args.knowledge.now in
    let q = c.args.requirement.now in
    let band = c.in_ok-band.band in
    let f = c.ranges.reading in
    let f' = c.ranges.expanded in
    let width = its_value (λ b. b.width ≡ width_of q.rule c.args.expanded) (width_refusal c.args.expanded) band (simp to_z-of_z at c.in_ok-band.ensures) in
    answered k rules q c.args.expanded c.args.reading c.in_ok-bracket.bracket (simp to_z-of_z at c.in_ok-bracket.ensures)
    c.in_ok-acceptance.acceptance (simp to_z-of_z at c.in_ok-acceptance.ensures) band.width width c.verdict_on-verdict.result
    (simp to_z-of_z at c.verdict_on-verdict.ensures)
