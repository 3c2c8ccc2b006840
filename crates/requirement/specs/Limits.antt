-- Tolerance limits and readings.
use Rattle.std.specs.Prelude.{Bool, true, false, ◌&&◌, ℤ, pos, neg_ℤ, Some, None, Option, int_le, int_lt}
use Rattle.faults.specs.declared.Refusal.{Refusal}
use Rattle.faults.specs.declared.Refusal.TheVariants.{OutOfRange, NoLimit, LimitsNotAscending}
use Rattle.faults.specs.Faults.{check}
use Rattle.faults.specs.Ranges.{from_to}

-- readings and limits lie from -1,000,000 to 1,000,000 steps
abbrev pub in_reach : ℤ → Bool
in_reach x = from_to (neg_ℤ (pos 1000000)) (pos 1000000) x

abbrev pub limit_in_reach : Option ℤ → Bool
limit_in_reach None = true
limit_in_reach (Some x) = in_reach x

-- one limit may be absent, never both
abbrev pub some_limit : Option ℤ → Option ℤ → Bool
some_limit None None = false
some_limit None (Some u) = true
some_limit (Some l) u = true

-- where both stand, the lower lies below the upper
abbrev pub ascending : Option ℤ → Option ℤ → Bool
ascending None u = true
ascending (Some l) None = true
ascending (Some l) (Some u) = int_lt l u

-- what two limits are refused for, in this order
abbrev pub tolerance_refusal : Option ℤ → Option ℤ → Option Refusal
tolerance_refusal l u =
    check (limit_in_reach l && limit_in_reach u) OutOfRange (check (some_limit l u) NoLimit (check (ascending l u) LimitsNotAscending None))

-- x is not below the lower limit, nor above the upper one: the limits belong to the interval
abbrev pub not_below : Option ℤ → ℤ → Bool
not_below None x = true
not_below (Some l) x = int_le l x

abbrev pub not_above : Option ℤ → ℤ → Bool
not_above None x = true
not_above (Some u) x = int_le x u

abbrev pub within : Option ℤ → Option ℤ → ℤ → Bool
within l u x = not_below l x && not_above u x
