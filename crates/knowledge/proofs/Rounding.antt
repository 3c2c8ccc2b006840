-- Quotients that are rounded down and up: both rise with the numerator, and they differ by at most one.
use Rattle.std.proofs.Common.{ℕ, ◌+◌, ◌*◌, ◌/◌, ◌<◌, ◌≤◌, mul-le-mul_left, add-mul, div-add-mod', arith}
use Rattle.std.proofs.Math.Nat.{lt_of_mul-lt-mul_right}
use Rattle.std.proofs.lemmas.Nat.{le-div}
use Rattle.std.proofs.lemmas.Grind.{div_ceil_times}
use Rattle.knowledge.specs.Millionths.{million, rounded_down, rounded_up}

pub down_rises : (m n d : ℕ) → 0 < d → m ≤ n → rounded_down m d ≤ rounded_down n d
down_rises m n d h le = le-div (m / d) n d h (omega (arith, div-add-mod' m d))

pub up_above : (n d : ℕ) → rounded_down n d ≤ rounded_up n d
up_above n d = omega arith

pub up_near : (n d : ℕ) → rounded_up n d ≤ rounded_down n d + 1
up_near n d = omega arith

-- no lesser quotient than the one rounded up covers the numerator
pub up_least : (n q d : ℕ) → 0 < d → n ≤ q * d → rounded_up n d ≤ q
up_least n q d h le = let below : rounded_up n d < q + 1 = lt_of_mul-lt-mul_right d (omega (arith, (div_ceil_times n d h).1, add-mul q 1 d)) in omega arith

pub up_rises : (m n d : ℕ) → 0 < d → m ≤ n → rounded_up m d ≤ rounded_up n d
up_rises m n d h le = up_least m (rounded_up n d) d h (omega (arith, (div_ceil_times n d h).0))

-- a part of a whole, in millionths, is at most a million
pub part_up : (p w : ℕ) → 0 < w → p ≤ w → rounded_up (million * p) w ≤ million
part_up p w h le = up_least (million * p) million w h (mul-le-mul_left million le)
