-- Decimal digits, as bytes: 48 to 57 for 0 to 9.
use Rattle.std.specs.Prelude.{◌≡◌, ℕ, zero, suc, ◌+◌, ◌-◌, ◌*◌, ◌/◌, ◌%◌, ◌^◌, ◌<◌, ◌≤◌, List, [], ◌∷◌, length, slice_index, slice_index_or}
use Rattle.std.specs.Int.{IsInRange}

-- the lowest k digits of n, highest first, each by its place value
unfoldable pub lowest_digits : ℕ → ℕ → List ℕ
lowest_digits zero n = []
lowest_digits (suc k) n = (48 + n / 10 ^ k % 10) ∷ lowest_digits k n

-- z of eleven digits are leading zeros: n has at most the others, and the first of these, unless it is the last digit, is not 0
abbrev pub Skips : ℕ → ℕ → Type 0
Skips n z = (z ≤ 10) × (n < 10 ^ (11 - z)) × (z < 10 → 10 ^ (10 - z) ≤ n)

-- nothing but digits
abbrev pub OnlyDigits : List ℕ → Type 0
OnlyDigits ds = (k : ℕ) → k < length ds → IsInRange 48 57 (slice_index ds k)

-- the number that digits write after those of n
abbrev pub read_after : ℕ → List ℕ → ℕ
read_after n [] = n
read_after n (d ∷ ds) = read_after (n * 10 + (d - 48)) ds

-- the decimal form of n: digits that say n, the first of several not 0, and no digits that say n are fewer
pub record Shortest (n : ℕ) (ds : List ℕ) : Type 0 where
  pub only_digits : OnlyDigits ds
  pub some : 0 < length ds
  pub says : read_after 0 ds ≡ n
  pub no_leading_zero : slice_index_or ds 0 0 ≡ 48 → length ds ≡ 1
  pub no_fewer : (es : List ℕ) → OnlyDigits es → 0 < length es → read_after 0 es ≡ n → length ds ≤ length es
