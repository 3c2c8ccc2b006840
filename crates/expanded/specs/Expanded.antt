-- The expanded uncertainty: twice the standard uncertainty.
use Rattle.std.specs.Prelude.{◌≡◌, ℕ, zero, suc, ◌*◌, ◌<◌, ◌≤◌, Bool, cond, nat_le}
use Rattle.kinds.specs.declared.Kind.{Kind}
use Rattle.kinds.specs.declared.Kind.TheVariants.{Normal as N, Rectangular as R}

-- the first number from 0 on that passes the test, or n where none below n does
unfoldable pub first_up_to : (ℕ → Bool) → ℕ → ℕ
first_up_to test zero = zero
first_up_to test (suc n) = cond (test (first_up_to test n)) (first_up_to test n) (suc n)

-- n is at least twice s over the square root of 3: 3n² ≥ 4s²
abbrev pub reaches : ℕ → ℕ → Bool
reaches s n = nat_le (4 * (s * s)) (3 * (n * n))

-- the first n from 0 on with 3n² ≥ 4s², which 2s has
abbrev pub first_reaching : ℕ → ℕ
first_reaching s = first_up_to (reaches s) (2 * s)

-- twice the standard uncertainty: 2s under N, and 2s over the square root of 3, rounded up, for the half-width s under R
abbrev pub expanded_of : Kind → ℕ
expanded_of (N k) = 2 * k.standard_uncertainty
expanded_of (R k) = first_reaching k.half_width

-- the least n with 3n² ≥ 4s²
pub record LeastOver (s n : ℕ) : Type 0 where
  pub reached : 4 * (s * s) ≤ 3 * (n * n)
  pub least : (m : ℕ) → m < n → 3 * (m * m) < 4 * (s * s)

-- the rule of each kind
abbrev pub FollowsRule : Kind → ℕ → Type 0
FollowsRule (N k) n = n ≡ 2 * k.standard_uncertainty
FollowsRule (R k) n = LeastOver k.half_width n
