-- The covered part of the interval: at most the whole, rising with the offset, and the same at the nearer end.
use Rattle.std.specs.Prelude.{◌≡◌, ℕ, ◌*◌, ◌≤◌, ◌⊎◌, ℤ, pos, negsuc, ◌+ℤ◌, ◌≤ℤ◌, ◌<ℤ◌, unsigned_abs, refl}
use Rattle.std.proofs.Common.{inl, inr, ⊎_elim, arith}
use Rattle.std.specs.Int.{int_min, int_max}
use Rattle.std.proofs.lemmas.Int.{ints, clamps}
use Rattle.knowledge.specs.Offsets.{nearest}
use Rattle.rectangular.specs.Rectangular.{at_least_zero, covered}

-- a number that is not negative is kept, and any other answered by 0
at_least_zero_ways : (z : ℤ) → (z ≡ pos (at_least_zero z)) ⊎ ((z <ℤ pos 0) × (at_least_zero z ≡ 0))
at_least_zero_ways (pos n) = inl refl
at_least_zero_ways (negsuc n) = inr (omega (arith, ints), refl)

pub covered_whole : (s : ℕ) (x : ℤ) → covered s x ≤ 2 * s
covered_whole s x = omega arith

pub covered_rises : (s : ℕ) (x y : ℤ) → x ≤ℤ y → covered s x ≤ covered s y
covered_rises s x y h =
    ⊎_elim
    (λ p. ⊎_elim (λ q. omega (arith, ints)) (λ q. omega (arith, ints)) (at_least_zero_ways (y +ℤ pos s)))
    (λ p. omega arith)
    (at_least_zero_ways (x +ℤ pos s))

pub covered_nearest : (s : ℕ) (x : ℤ) → s ≤ 400000 → covered s x ≡ covered s (nearest x)
covered_nearest s x h =
    let ways = at_least_zero_ways (x +ℤ pos s) in
    let ways' = at_least_zero_ways (nearest x +ℤ pos s) in
    ⊎_elim
    (λ p. ⊎_elim (λ q. omega (arith, ints, clamps)) (λ q. omega (arith, ints, clamps)) ways')
    (λ p. ⊎_elim (λ q. omega (arith, ints, clamps)) (λ q. omega (arith, ints, clamps)) ways')
    ways

-- the program's way: the sum, held between 0 and the whole
pub covered_held : (s : ℕ) (x : ℤ) → unsigned_abs (int_max (pos 0) (int_min (x +ℤ pos s) (pos (2 * s)))) ≡ covered s x
covered_held s x = ⊎_elim (λ p. omega (arith, ints, clamps)) (λ p. omega (arith, ints, clamps)) (at_least_zero_ways (x +ℤ pos s))
