-- The width of the guard band: how far the acceptance limits lie inside the tolerance limits, or outside where it is negative.
use Rattle.std.specs.Prelude.{suc, Bool, ℤ, pos, negsuc, ◌+ℤ◌, ◌*ℤ◌, neg_ℤ, ◌≤ℤ◌, ◌<ℤ◌, None, Option}
use Rattle.faults.specs.declared.Refusal.{Refusal}
use Rattle.faults.specs.declared.Refusal.TheVariants.{OutOfRange}
use Rattle.faults.specs.Faults.{check}
use Rattle.knowledge.specs.Millionths.{rounded_down, rounded_up}
use Rattle.faults.specs.Ranges.{from_to}
use Rattle.requirement.specs.declared.rules.Rule.{Rule}
use Rattle.requirement.specs.declared.rules.Rule.TheVariants.{Simple, Guard, Multiple, Shares}

-- z hundredths, rounded up to a whole number: away from 0 above it, towards 0 below it
abbrev pub hundredths_up : ℤ → ℤ
hundredths_up (pos n) = pos (rounded_up n 100)
hundredths_up (negsuc n) = neg_ℤ (pos (rounded_down (suc n) 100))

-- which is the least whole number w not below z ÷ 100
pub record LeastHundredth (z w : ℤ) : Type 0 where
  pub not_below : z ≤ℤ (w *ℤ pos 100)
  pub none_less : (w *ℤ pos 100) <ℤ (z +ℤ pos 100)

-- an expanded uncertainty lies from 0 to 1,000,000 steps
abbrev pub is_expanded : ℤ → Bool
is_expanded x = from_to (pos 0) (pos 1000000) x

-- a guard band's width lies from -2,000,000 to 2,000,000 steps, twice the greatest expanded uncertainty either way
abbrev pub is_width : ℤ → Bool
is_width w = from_to (neg_ℤ (pos 2000000)) (pos 2000000) w

-- the width under each rule, for an expanded uncertainty; shares have no guard band
abbrev pub width_of : Rule → ℤ → ℤ
width_of Simple expanded = pos 0
width_of (Guard w) expanded = w
width_of (Multiple r) expanded = hundredths_up (r *ℤ expanded)
width_of (Shares lower upper) expanded = pos 0

-- a width is refused only for an expanded uncertainty out of range
abbrev pub width_refusal : ℤ → Option Refusal
width_refusal expanded = check (is_expanded expanded) OutOfRange None
