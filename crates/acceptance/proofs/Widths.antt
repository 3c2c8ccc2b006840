-- Hundredths rounded up, and how wide a guard band can be.
use Rattle.std.proofs.Common.{◌≡◌, zero, suc, true, Option, ℤ, pos, negsuc, ◌+ℤ◌, ◌-ℤ◌, ◌*ℤ◌, neg_ℤ, ◌≤ℤ◌, refl, ap, ◌∙◌, arith}
use lib.IntN.{+ℤ_idl}
use Rattle.std.specs.Int.{int_div_euclid}
use Rattle.std.specs.Option.{option_map}
use Rattle.std.proofs.lemmas.Nat.{mul-le}
use Rattle.std.specs.Int.RustNames.{unsigned_abs}
use Rattle.std.proofs.lemmas.Int.{ints, unsigned_abs-mul}
use Rattle.faults.specs.Ranges.{from_to}
use Rattle.requirement.proofs.Reach.{range_out, range_in}
use Rattle.requirement.specs.Limits.{within}
use Rattle.acceptance.specs.Guard.{is_expanded, is_width, hundredths_up, LeastHundredth}
use Rattle.acceptance.specs.Acceptance.{guarded, widened}

-- the program's way: the negative of the negative rounded down
by_negatives : (z : ℤ) → neg_ℤ (int_div_euclid (neg_ℤ z) (pos 100)) ≡ hundredths_up z
by_negatives (pos zero) = refl
by_negatives (pos (suc n)) = ap pos (omega arith)
by_negatives (negsuc n) = refl

pub rounded_by_negatives : (z : ℤ) → pos 0 -ℤ int_div_euclid (pos 0 -ℤ z) (pos 100) ≡ hundredths_up z
rounded_by_negatives z =
    ap (λ x. pos 0 -ℤ int_div_euclid x (pos 100)) (+ℤ_idl (neg_ℤ z)) ∙ +ℤ_idl (neg_ℤ (int_div_euclid (neg_ℤ z) (pos 100))) ∙ by_negatives z

pub least_hundredth : (z : ℤ) → LeastHundredth z (hundredths_up z)
least_hundredth (pos n) = record { not_below = omega (arith, ints); none_less = omega (arith, ints) }
least_hundredth (negsuc n) = record { not_below = omega (arith, ints); none_less = omega (arith, ints) }

-- a multiple of at most two of an expanded uncertainty, in hundredths
pub product_within : (r u : ℤ) → from_to (neg_ℤ (pos 200)) (pos 200) r ≡ true → is_expanded u ≡ true → (neg_ℤ (pos 200000000) ≤ℤ (r *ℤ u)) × ((r *ℤ u) ≤ℤ pos 200000000)
product_within r u hr hu =
    let in_r = range_out (neg_ℤ (pos 200)) (pos 200) r hr in
    let in_u = range_out (pos 0) (pos 1000000) u hu in
    let le = mul-le (unsigned_abs r) (unsigned_abs u) 200 1000000 (omega (arith, ints)) (omega (arith, ints)) in
    let abs = unsigned_abs-mul r u in
    (omega (arith, ints), omega (arith, ints))

pub width_within : (z : ℤ) → neg_ℤ (pos 200000000) ≤ℤ z → z ≤ℤ pos 200000000 → is_width (hundredths_up z) ≡ true
width_within z h h' =
    let least = least_hundredth z in
    range_in (neg_ℤ (pos 2000000)) (pos 2000000) (hundredths_up z) (omega (arith, ints, least.not_below)) (omega (arith, ints, least.none_less))

less_negative : (w x : ℤ) → x +ℤ (pos 0 -ℤ w) ≡ x -ℤ w
less_negative w x = omega (arith, ints)

more_negative : (w x : ℤ) → x -ℤ (pos 0 -ℤ w) ≡ x +ℤ w
more_negative w x = omega (arith, ints)

-- inwards by the negative width is outwards by the width
pub narrowed_by_negative : (l u : Option ℤ) (w y : ℤ) → within (guarded l u (pos 0 -ℤ w)).lower (guarded l u (pos 0 -ℤ w)).upper y ≡ widened l u w y
narrowed_by_negative l u w y i = within (option_map (λ x. less_negative w x i) l) (option_map (λ x. more_negative w x i) u) y
