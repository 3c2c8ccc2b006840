-- Why a bracket holds for every admitted distribution and is met by one: from the rules of the answers alone.
use Rattle.std.proofs.Common.{◌≡◌, ℕ, ◌+◌, ◌-◌, ◌*◌, ◌≤◌, max, true, ℤ, ◌-ℤ◌, ◌≤ℤ◌, ◌<ℤ◌, Some, None, Option, refl, ap, ◌∙◌, mul_comm, arith}
use native.Mathlib.Nat.{mul-sub}
use Rattle.std.proofs.lemmas.Int.{ints}
use Rattle.knowledge.specs.Millionths.{million}
use Rattle.knowledge.specs.Offsets.{Offset}
use Rattle.knowledge.specs.Knowledge.{Answers, Rules}
use Rattle.knowledge.specs.Distributions.{Distribution, Admitted}
use Rattle.knowledge.proofs.Witnesses.{Between, over_million, is_admitted, floor_is_between, ceiling_is_between, spliced, spliced_at, spliced_beyond, spliced_between}
use Rattle.requirement.proofs.Reach.{reach_out}
use Rattle.requirement.specs.Limits.{in_reach, limit_in_reach, ascending}
use Rattle.requirement.specs.declared.tolerance.Tolerance.{Tolerance}
use Rattle.judging.specs.Brackets.{floor_between, ceiling_between, bracketed}
use Rattle.judging.specs.Guarantee.{parts_between, BracketHolds}

-- a difference of fractions: p ÷ n is at most r ÷ m, and q ÷ n at least s ÷ m
difference : (p q r s m n : ℕ) → p * m ≤ n * r → n * s ≤ q * m → (p - q) * m ≤ n * (r - s)
difference p q r s m n up low = omega (arith, mul_comm (p - q) m, mul-sub m p q, mul-sub n r s, mul_comm m p, mul_comm m q)

-- a limit less a reading is an offset
pub offset_of : (l y : ℤ) → in_reach l ≡ true → in_reach y ≡ true → Offset (l -ℤ y)
offset_of l y hl hy =
    let a = reach_out l hl in
    let b = reach_out y hy in
    record { not_below = omega (arith, ints); not_above = omega (arith, ints) }

-- a smaller limit gives a smaller offset
offset_less : (l u y : ℤ) → l <ℤ u → (l -ℤ y) <ℤ (u -ℤ y)
offset_less l u y h = omega (arith, ints)

module _ (k : Answers) (r : Rules k) where
  -- an admitted distribution that has exactly `value` of a million in the place of its conforming parts
  abbrev Met : Option ℤ → Option ℤ → ℤ → ℕ → Type 0
  Met l u y value = (d : Distribution) × Admitted k d × (value * d.parts ≡ million * parts_between d l u y)

  met_by : (f : ℤ → ℕ) (b : Between k f) (l u : Option ℤ) (y : ℤ) (value : ℕ) → value ≡ parts_between (over_million k r f b) l u y → Met l u y value
  met_by f b l u y value e = (over_million k r f b, is_admitted k r f b, ap (λ n. n * million) e ∙ mul_comm _ million)

  -- as much as may lies up to a, and beyond it no more than must
  low_beyond : ℤ → ℤ → ℕ
  low_beyond a x = max (k.floor x) (k.ceiling a)

  low : (a : ℤ) → Between k (spliced k.ceiling (low_beyond a) a)
  unfolding low_beyond
  low a = spliced_between k r k.ceiling (low_beyond a) a (ceiling_is_between k r) (λ x h. omega arith) (λ x h. let le : a ≤ℤ x = omega (arith, ints) in omega (arith, r.ordered x, r.ceiling_rises a x le))
      (λ x y le. omega (arith, r.floor_rises x y le)) (λ y h. omega arith)

  -- no more than must lies up to a, and beyond it as much as may
  high : (a : ℤ) → Between k (spliced k.floor k.ceiling a)
  high a = spliced_between k r k.floor k.ceiling a (floor_is_between k r) (λ x h. r.ordered x) (λ x h. omega arith)
      r.ceiling_rises (λ y h. let le : a ≤ℤ y = omega (arith, ints) in omega (arith, r.ordered a, r.ceiling_rises a y le))

  floor_met : (l u : Option ℤ) (y : ℤ) → ascending l u ≡ true → Met l u y (floor_between k l u y)
  unfolding low_beyond
  floor_met (Some l) (Some u) y h =
      let a = l -ℤ y in
      let b = u -ℤ y in
      let before : a <ℤ b = offset_less l u y (omega (arith, ints)) in
      met_by _ (low a) (Some l) (Some u) y _ (omega (arith, spliced_at k.ceiling (low_beyond a) a, spliced_beyond k.ceiling (low_beyond a) a b before))
  floor_met None (Some u) y h = met_by _ (floor_is_between k r) None (Some u) y _ refl
  floor_met (Some l) None y h = met_by _ (ceiling_is_between k r) (Some l) None y _ refl
  floor_met None None y h = met_by _ (floor_is_between k r) None None y _ refl

  ceiling_met : (l u : Option ℤ) (y : ℤ) → ascending l u ≡ true → Met l u y (ceiling_between k l u y)
  ceiling_met (Some l) (Some u) y h =
      let a = l -ℤ y in
      let b = u -ℤ y in
      let before : a <ℤ b = offset_less l u y (omega (arith, ints)) in
      met_by _ (high a) (Some l) (Some u) y _ (omega (arith, spliced_at k.floor k.ceiling a, spliced_beyond k.floor k.ceiling a b before))
  ceiling_met None (Some u) y h = met_by _ (ceiling_is_between k r) None (Some u) y _ refl
  ceiling_met (Some l) None y h = met_by _ (floor_is_between k r) (Some l) None y _ refl
  ceiling_met None None y h = met_by _ (floor_is_between k r) None None y _ refl

  over_floor : (l u : Option ℤ) (y : ℤ) → limit_in_reach l ≡ true → limit_in_reach u ≡ true → in_reach y ≡ true → (d : Distribution) → Admitted k d → floor_between k l u y * d.parts ≤ million * parts_between d l u y
  over_floor (Some l) (Some u) y hl hu hy d ad =
      difference (k.floor (u -ℤ y)) (k.ceiling (l -ℤ y)) (d.at_most (u -ℤ y)) (d.at_most (l -ℤ y)) d.parts million
      (ad.over_floor (u -ℤ y) (offset_of u y hu hy)) (ad.under_ceiling (l -ℤ y) (offset_of l y hl hy))
  over_floor None (Some u) y hl hu hy d ad = ad.over_floor (u -ℤ y) (offset_of u y hu hy)
  over_floor (Some l) None y hl hu hy d ad =
      difference million (k.ceiling (l -ℤ y)) d.parts (d.at_most (l -ℤ y)) d.parts million (omega arith) (ad.under_ceiling (l -ℤ y) (offset_of l y hl hy))
  over_floor None None y hl hu hy d ad = omega arith

  under_ceiling : (l u : Option ℤ) (y : ℤ) → limit_in_reach l ≡ true → limit_in_reach u ≡ true → in_reach y ≡ true → (d : Distribution) → Admitted k d → million * parts_between d l u y ≤ ceiling_between k l u y * d.parts
  under_ceiling (Some l) (Some u) y hl hu hy d ad =
      let up = ad.under_ceiling (u -ℤ y) (offset_of u y hu hy) in
      let low = ad.over_floor (l -ℤ y) (offset_of l y hl hy) in
      omega (arith, difference (d.at_most (u -ℤ y)) (d.at_most (l -ℤ y)) (k.ceiling (u -ℤ y)) (k.floor (l -ℤ y)) million d.parts (omega arith) (omega arith))
  under_ceiling None (Some u) y hl hu hy d ad = ad.under_ceiling (u -ℤ y) (offset_of u y hu hy)
  under_ceiling (Some l) None y hl hu hy d ad =
      let low = ad.over_floor (l -ℤ y) (offset_of l y hl hy) in
      omega (arith, difference d.parts (d.at_most (l -ℤ y)) million (k.floor (l -ℤ y)) million d.parts (omega arith) (omega arith))
  under_ceiling None None y hl hu hy d ad = omega arith

  narrow : (l u : Option ℤ) (y : ℤ) → ceiling_between k l u y ≤ floor_between k l u y + 2 * k.width
  narrow (Some l) (Some u) y = omega (arith, r.narrow (u -ℤ y), r.narrow (l -ℤ y))
  narrow None (Some u) y = omega (arith, r.narrow (u -ℤ y))
  narrow (Some l) None y = omega (arith, r.narrow (l -ℤ y))
  narrow None None y = omega arith

  -- what must lie up to a limit is within what may lie up to a greater one
  pub least_under_most : (l u y : ℤ) → l <ℤ u → k.floor (l -ℤ y) ≤ k.ceiling (u -ℤ y)
  least_under_most l u y h =
      let le : (l -ℤ y) ≤ℤ (u -ℤ y) = omega (arith, ints) in
      omega (arith, r.floor_rises (l -ℤ y) (u -ℤ y) le, r.ordered (u -ℤ y))

  pub bracket_holds : (t : Tolerance) (y : ℤ) → in_reach y ≡ true → BracketHolds k t y (bracketed k t y)
  bracket_holds t y hy =
      record {
        over_floor = over_floor t.lower t.upper y t.lower_reach t.upper_reach hy;
        under_ceiling = under_ceiling t.lower t.upper y t.lower_reach t.upper_reach hy;
        floor_met = floor_met t.lower t.upper y t.ascends;
        ceiling_met = ceiling_met t.lower t.upper y t.ascends;
        narrow = narrow t.lower t.upper y;
      }
