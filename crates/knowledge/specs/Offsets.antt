-- Offsets: how many steps the true value lies above the reading, negative where it lies below.
use Rattle.std.specs.Prelude.{ℤ, pos, neg_ℤ, ◌≤ℤ◌}
use Rattle.std.specs.Int.{int_min, int_max}

-- the greatest offset, and the least
abbrev pub greatest : ℤ
greatest = pos 2000000

abbrev pub least : ℤ
least = neg_ℤ (pos 2000000)

-- x lies in the range of offsets
pub record Offset (x : ℤ) : Type 0 where
  pub not_below : least ≤ℤ x
  pub not_above : x ≤ℤ greatest

-- x itself, or the nearer end where it lies outside
abbrev pub nearest : ℤ → ℤ
nearest x = int_max least (int_min x greatest)
