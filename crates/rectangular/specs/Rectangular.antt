-- What the rectangular kind answers.
use Rattle.std.specs.Prelude.{ℕ, ◌*◌, min, ℤ, pos, negsuc, ◌+ℤ◌}
use Rattle.knowledge.specs.Millionths.{million, rounded_down, rounded_up}
use Rattle.knowledge.specs.Knowledge.{Answers}

-- a whole number, or 0 where it is negative
abbrev pub at_least_zero : ℤ → ℕ
at_least_zero (pos n) = n
at_least_zero (negsuc n) = 0

-- how many of the 2s steps from -s to s lie at or below x: none below -s, all above s
abbrev pub covered : ℕ → ℤ → ℕ
covered s x = min (2 * s) (at_least_zero (x +ℤ pos s))

-- half-width s: the covered part of the interval, rounded down and up to millionths
abbrev pub rectangular : ℕ → Answers
rectangular s = record { floor = λ x. rounded_down (million * covered s x) (2 * s); ceiling = λ x. rounded_up (million * covered s x) (2 * s); width = 1 }
