-- What a bias layer answers over another state of knowledge.
use Rattle.std.specs.Prelude.{Bool, cond, ℤ, pos, ◌+ℤ◌, neg_ℤ, None, Option}
use Rattle.faults.specs.declared.Refusal.{Refusal}
use Rattle.faults.specs.declared.Refusal.TheVariants.{OutOfRange}
use Rattle.faults.specs.Faults.{check}
use Rattle.faults.specs.Ranges.{from_to}
use Rattle.knowledge.specs.Offsets.{nearest}
use Rattle.knowledge.specs.Knowledge.{Answers}

-- a bias lies from -100,000 to 100,000 steps
abbrev pub is_bias : ℤ → Bool
is_bias c = from_to (neg_ℤ (pos 100000)) (pos 100000) c

abbrev pub bias_refusal : ℤ → Option Refusal
bias_refusal c = check (is_bias c) OutOfRange None

-- the bias itself, or 0 where it lies outside
abbrev pub kept : ℤ → ℤ
kept c = cond (is_bias c) c (pos 0)

-- an instrument that reads c too high: at x the answers are those below at x + c
abbrev pub shifted : ℤ → Answers → Answers
shifted c k = record { floor = λ x. k.floor (nearest x +ℤ c); ceiling = λ x. k.ceiling (nearest x +ℤ c); width = k.width }
