-- The lists that carry a sheet or a lot.
use Rattle.std.specs.Prelude.{ℕ, cond, None, Option, nat_le}
use Rattle.faults.specs.declared.Refusal.{Refusal}
use Rattle.faults.specs.declared.Refusal.TheVariants.{OutOfRange}
use Rattle.faults.specs.Faults.{check}

-- a list has at most 10,000 places
abbrev pub list_refusal : ℕ → Option Refusal
list_refusal n = check (nat_le n 10000) OutOfRange None

-- how many places a list gives: all of its own, but none where it is too long
abbrev pub places_of : ℕ → ℕ
places_of n = cond (nat_le n 10000) n 0
