-- The bracket on the conformity probability of a reading y: what the state of knowledge answers at the limits, put together.
use Rattle.std.specs.Prelude.{ℕ, ◌-◌, ℤ, ◌-ℤ◌, Some, None, Option}
use Rattle.faults.specs.declared.Refusal.{Refusal}
use Rattle.faults.specs.declared.Refusal.TheVariants.{OutOfRange}
use Rattle.faults.specs.Faults.{check}
use Rattle.knowledge.specs.Millionths.{million}
use Rattle.knowledge.specs.Knowledge.{Answers}
use Rattle.requirement.specs.Limits.{in_reach}
use Rattle.requirement.specs.declared.tolerance.Tolerance.{Tolerance}
use Rattle.judging.specs.declared.answers.Bracket.{Bracket}

-- a reading is refused only for lying out of range
abbrev pub reading_refusal : ℤ → Option Refusal
reading_refusal y = check (in_reach y) OutOfRange None

-- the floor: at least so much lies up to the upper limit, less the most that may lie up to the lower one, and not below 0
abbrev pub floor_between : Answers → Option ℤ → Option ℤ → ℤ → ℕ
floor_between k (Some l) (Some u) y = k.floor (u -ℤ y) - k.ceiling (l -ℤ y)
floor_between k None (Some u) y = k.floor (u -ℤ y)
floor_between k (Some l) None y = million - k.ceiling (l -ℤ y)
floor_between k None None y = million

-- the ceiling: at most so much lies up to the upper limit, less the least that must lie up to the lower one
abbrev pub ceiling_between : Answers → Option ℤ → Option ℤ → ℤ → ℕ
ceiling_between k (Some l) (Some u) y = k.ceiling (u -ℤ y) - k.floor (l -ℤ y)
ceiling_between k None (Some u) y = k.ceiling (u -ℤ y)
ceiling_between k (Some l) None y = million - k.floor (l -ℤ y)
ceiling_between k None None y = million

-- the bracket of reading y within the tolerance t
abbrev pub bracketed : Answers → Tolerance → ℤ → Bracket
bracketed k t y = record { floor = floor_between k t.lower t.upper y; ceiling = ceiling_between k t.lower t.upper y }
