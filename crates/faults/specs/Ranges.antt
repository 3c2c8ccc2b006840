-- Numbers in range.
use Rattle.std.specs.Prelude.{Bool, ◌&&◌, ℤ, None, Option, int_le}
use Rattle.faults.specs.declared.Refusal.{Refusal}
use Rattle.faults.specs.declared.Refusal.TheVariants.{OutOfRange}
use Rattle.faults.specs.Faults.{check}

-- x lies from low to high
abbrev pub from_to : ℤ → ℤ → ℤ → Bool
from_to low high x = int_le low x && int_le x high

-- a number is refused for lying out of its range
abbrev pub range_refusal : ℤ → ℤ → ℤ → Option Refusal
range_refusal low high x = check (from_to low high x) OutOfRange None
