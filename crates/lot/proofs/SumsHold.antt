-- Why the risk sums over passes hold for every choice of admitted distributions: note by note, over the product of the parts.
use Rattle.std.proofs.Common.{◌≡◌, ℕ, ◌+◌, ◌-◌, ◌*◌, ◌≤◌, List, [], ◌∷◌, refl, ap, mul-le-mul_right, mul_assoc, mul_comm, add-mul, mul-add, arith}
use native.Mathlib.Nat.{mul-sub}
use Rattle.std.specs.List.{AllByRecursion}
use Rattle.knowledge.specs.Millionths.{million}
use Rattle.judging.specs.Guarantee.{conforming, BracketHolds}
use Rattle.judging.proofs.Order.{judged_bracket}
use Rattle.lot.specs.Notes.{Note, Judgeable, judgement}
use Rattle.lot.specs.Risks.{Choice, at_risk, all_parts, all_risk, least_risks, greatest_risks, widths, SumsHold}

-- what is left of one, bounded from what is bounded: all over p parts
left_over : (m c e p : ℕ) → m * c ≤ e * p → (m - e) * p ≤ m * (p - c)
left_over m c e p h = omega (arith, mul_comm (m - e) p, mul-sub p m e, mul-sub m p c, mul_comm p m, mul_comm p e)

left_under : (m c f p : ℕ) → f * p ≤ m * c → m * (p - c) ≤ (m - f) * p
left_under m c f p h = omega (arith, mul_comm (m - f) p, mul-sub p m f, mul-sub m p c, mul_comm p m, mul_comm p f)

-- one more fraction joins a sum: a ÷ p and r ÷ q become (a q + p r) ÷ (p q)
module _ (s t a p r q m : ℕ) where
  bounds_sum : (s + t) * (p * q) ≡ s * p * q + t * q * p
  bounds_sum = omega (arith, add-mul s t (p * q), mul_assoc s p q, ap (λ x. t * x) (mul_comm p q), mul_assoc t q p)

  parts_sum : m * (a * q + p * r) ≡ m * a * q + m * r * p
  parts_sum = omega (arith, mul-add m (a * q) (p * r), mul_assoc m a q, ap (λ x. m * x) (mul_comm p r), mul_assoc m r p)

  joined_over : s * p ≤ m * a → t * q ≤ m * r → (s + t) * (p * q) ≤ m * (a * q + p * r)
  joined_over h h' = omega (arith, bounds_sum, parts_sum, mul-le-mul_right q h, mul-le-mul_right p h')

  joined_under : m * a ≤ s * p → m * r ≤ t * q → m * (a * q + p * r) ≤ (s + t) * (p * q)
  joined_under h h' = omega (arith, bounds_sum, parts_sum, mul-le-mul_right q h, mul-le-mul_right p h')

-- a note that judging does not refuse has a bracket that holds
holds : (n : Note) → Judgeable n → BracketHolds n.knowledge n.requirement.tolerance n.fields.reading (judgement n).bracket
holds n h = judged_bracket n.knowledge n.rules n.requirement n.fields.expanded n.fields.reading h

over_lesser : (ns : List Note) → AllByRecursion Judgeable ns → (c : Choice ns) → least_risks ns * all_parts ns c ≤ million * all_risk ns c
over_lesser [] h c = omega arith
over_lesser (n ∷ ns) h c =
    let d = c.0.0 in
    joined_over (million - (judgement n).bracket.ceiling) (least_risks ns) (at_risk n d) d.parts (all_risk ns c.1) (all_parts ns c.1) million
    (left_over million (conforming d n.requirement.tolerance n.fields.reading) (judgement n).bracket.ceiling d.parts ((holds n h.0).under_ceiling d c.0.1))
    (over_lesser ns h.1 c.1)

under_greater : (ns : List Note) → AllByRecursion Judgeable ns → (c : Choice ns) → million * all_risk ns c ≤ greatest_risks ns * all_parts ns c
under_greater [] h c = omega arith
under_greater (n ∷ ns) h c =
    let d = c.0.0 in
    joined_under (million - (judgement n).bracket.floor) (greatest_risks ns) (at_risk n d) d.parts (all_risk ns c.1) (all_parts ns c.1) million
    (left_under million (conforming d n.requirement.tolerance n.fields.reading) (judgement n).bracket.floor d.parts ((holds n h.0).over_floor d c.0.1))
    (under_greater ns h.1 c.1)

narrow : (ns : List Note) → AllByRecursion Judgeable ns → greatest_risks ns ≤ least_risks ns + 2 * widths ns
narrow [] h = omega arith
narrow (n ∷ ns) h = omega (arith, (holds n h.0).narrow, narrow ns h.1)

pub sums_hold : (ns : List Note) → AllByRecursion Judgeable ns → SumsHold ns (least_risks ns) (greatest_risks ns)
sums_hold ns h =
    record { lesser_is = refl; greater_is = refl; over_lesser = over_lesser ns h; under_greater = under_greater ns h; narrow = narrow ns h }
