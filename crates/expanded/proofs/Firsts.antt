-- The least number over a half-width is the first that reaches it, and a rounded product or the next number.
use Rattle.std.proofs.Common.{◌≡◌, ℕ, zero, suc, ◌+◌, ◌*◌, ◌<◌, ◌≤◌, Bool, true, false, sym, refl, ◌∙◌, subst, ⊎_elim, mul-le-mul, arith}
use native.Mathlib.Nat.{mul-mul-mul_comm}
use Rattle.std.proofs.lemmas.Nat.{mul-lt}
use Rattle.std.proofs.lemmas.Bool.{cases_eq, le-leb}
use Rattle.expanded.specs.Expanded.{first_up_to, reaches, first_reaching, LeastOver}

module _ (test : ℕ → Bool) where
  -- where none below n passes
  first_none : (n : ℕ) → ((i : ℕ) → i < n → test i ≡ false) → first_up_to test n ≡ n
  unfolding first_up_to
  first_none zero fails = refl
  first_none (suc n) fails = rw (first_none n (λ i h. fails i (omega arith)), fails n (omega arith)) refl

  first_found : (n i : ℕ) → i ≤ n → test i ≡ true → ((j : ℕ) → j < i → test j ≡ false) → first_up_to test n ≡ i
  unfolding first_up_to
  first_found zero i h passes fails = omega arith
  first_found (suc n) i h passes fails =
      ⊎_elim
      (λ e. subst (λ m. first_up_to test m ≡ m) e (first_none i fails) ∙ sym e)
      (λ ne. rw (first_found n i (omega arith) passes fails, passes) refl)
      (cases_eq i (suc n))

-- twice the half-width reaches it
pub at_most_twice : (s n : ℕ) → LeastOver s n → n ≤ 2 * s
at_most_twice s n l = grind (arith, l.least (2 * s))

pub first_of_least : (s n : ℕ) → LeastOver s n → n ≡ first_reaching s
first_of_least s n l = sym (first_found (reaches s) (2 * s) n (at_most_twice s n l) (le-leb _ _ l.reached) (λ m h. grind (arith, l.least m h)))

-- what is at least the product reaches
reached_above : (s n : ℕ) → s * 1154700539 ≤ n * 1000000000 → 4 * (s * s) ≤ 3 * (n * n)
reached_above s n h = omega (arith, mul-le-mul h h, mul-mul-mul_comm)

-- what is less than the product by one or more does not
missed_below : (s m : ℕ) → s ≤ 400000 → (m + 1) * 1000000000 ≤ s * 1154700539 → 3 * (m * m) < 4 * (s * s)
missed_below s m within h =
    let less : m * 1000000000 < s * 1154700538 = omega arith in
    omega (arith, mul-lt _ _ _ _ less less, mul-mul-mul_comm)

-- the product rounded down, where it reaches
pub least_below : (s n : ℕ) → s ≤ 400000 → n * 1000000000 ≤ s * 1154700539 → 4 * (s * s) ≤ 3 * (n * n) → LeastOver s n
least_below s n within h reached = record { reached = reached; least = λ m less. missed_below s m within (omega arith) }

-- the next number, where it does not
pub least_above : (s n : ℕ) → s * 1154700539 < (n + 1) * 1000000000 → 3 * (n * n) < 4 * (s * s) → LeastOver s (n + 1)
least_above s n h missed =
    record { reached = reached_above s (n + 1) (omega arith); least = λ m less. let h : m ≤ n = omega arith in omega (arith, mul-le-mul h h) }
