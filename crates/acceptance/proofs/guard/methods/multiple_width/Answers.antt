use Rattle.std.proofs.Common.{◌≡◌, true, pos, ◌-ℤ◌, ◌*ℤ◌, sym, ap, ◌∙◌, subst, arith, w64, SFits}
use Rattle.std.specs.Int.{int_div_euclid}
use Rattle.std.proofs.lemmas.Int.{ints, to_z-of_z}
use Rattle.acceptance.specs.Guard.{is_width, hundredths_up, LeastHundredth}
use Rattle.acceptance.proofs.Widths.{rounded_by_negatives, least_hundredth, product_within, width_within}
use Rattle.acceptance.proofs.guard.methods.multiple_width.Goals as goal

pub returns : goal.returns
returns c =
    let f = c.ranges.hundredths in
    let f' = c.ranges.expanded in
    let z = c.args.hundredths *ℤ c.args.expanded in
    let q = c.div_euclid.result in
    let within = product_within c.args.hundredths c.args.expanded c.requires.0 c.requires.1 in
    let product : SFits w64 z = omega (arith, ints) in
    let negated : SFits w64 (pos 0 -ℤ z) = omega (arith, ints) in
    let fits : SFits w64 q = record { sfits = c.div_euclid.type_inv } in
    let quotient : q ≡ int_div_euclid (pos 0 -ℤ z) (pos 100) = simp to_z-of_z at c.div_euclid.ensures in
    let is : pos 0 -ℤ q ≡ hundredths_up z = ap (λ x. pos 0 -ℤ x) quotient ∙ rounded_by_negatives z in
    let least : LeastHundredth z (pos 0 -ℤ q) = subst (LeastHundredth z) (sym is) (least_hundredth z) in
    let width : is_width (pos 0 -ℤ q) ≡ true = subst (λ x. is_width x ≡ true) (sym is) (width_within z within.0 within.1) in
    let small : SFits w64 (pos 0 -ℤ q) = omega (arith, ints, least.not_below, least.none_less) in
    simp to_z-of_z (is, least, width)
