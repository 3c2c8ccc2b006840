use Rattle.std.proofs.Common.{◌≡◌, ap, ◌∙◌, pos, ◌-ℤ◌, neg_ℤ, arith, w64, SFits}
use Rattle.std.proofs.lemmas.Int.{ints, to_z-of_z}
use Rattle.requirement.specs.Limits.{within}
use Rattle.requirement.proofs.Reach.{range_out}
use Rattle.acceptance.specs.Acceptance.{guarded}
use Rattle.acceptance.proofs.Widths.{narrowed_by_negative}
use Rattle.acceptance.proofs.guard.GuardBand.holds_widened.Goals as goal

pub returns : goal.returns
returns c =
    let t = c.args.tolerance.now in
    let w = c.args.self.width in
    let f = c.ranges.reading in
    let r = range_out (neg_ℤ (pos 2000000)) (pos 2000000) w c.args.self.in_range in
    let fits : SFits w64 w = omega (arith, ints, r.0, r.1) in
    let negated : SFits w64 (pos 0 -ℤ w) = omega (arith, ints, r.0, r.1) in
    let wide : c.narrowed-wide.result ≡ guarded t.lower t.upper (pos 0 -ℤ w) = simp to_z-of_z at c.narrowed-wide.ensures in
    let is : c.within.result ≡ within c.narrowed-wide.result.lower c.narrowed-wide.result.upper c.args.reading = simp to_z-of_z at c.within.ensures in
    is ∙ ap (λ a. within a.lower a.upper c.args.reading) wide ∙ narrowed_by_negative t.lower t.upper w c.args.reading
