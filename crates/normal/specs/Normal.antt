-- What the normal kind answers.
use Rattle.std.specs.Prelude.{◌≡◌, ℕ, zero, suc, ◌+◌, ◌-◌, ◌*◌, ◌/◌, ◌%◌, ◌<◌, ◌≤◌, min, max, cond, ℤ, pos, negsuc, Some, None, Option, nat_lt}
use Rattle.knowledge.specs.Millionths.{million, rounded_down, rounded_up}
use Rattle.knowledge.specs.Knowledge.{Answers}
use Rattle.normal.specs.Table.{value, gap}

-- n steps in whole tenths of the standard uncertainty s
abbrev pub tenths : ℕ → ℕ → ℕ
tenths s n = 10 * n / s

-- and how far they reach into the next tenth, in parts of which s make a tenth
abbrev pub left_over : ℕ → ℕ → ℕ
left_over s n = 10 * n % s

-- the height of the table's chord n steps above the reading, in millionths, as a numerator over s
abbrev pub height : ℕ → ℕ → ℕ
height s n = 10 * (value (tenths s n) * s + gap (tenths s n) * left_over s n)

-- that height as an answer: there is none from four standard uncertainties on, where the table ends
abbrev pub HeightAt : ℕ → ℕ → Option ℕ → Type 0
HeightAt s n None = 40 ≤ tenths s n
HeightAt s n (Some h) = (tenths s n < 40) × (h ≡ height s n)

-- the floor: up to four standard uncertainties 5 under the chord, rounded down, but one half or more; from there on 999,965
abbrev pub floor_above : ℕ → ℕ → ℕ
floor_above s n = cond (nat_lt (tenths s n) 40) (max 500000 (rounded_down (height s n) s - 5)) 999965

-- the ceiling: up to four standard uncertainties 308 over the chord, rounded up, but no more than one; from there on one
abbrev pub ceiling_above : ℕ → ℕ → ℕ
ceiling_above s n = cond (nat_lt (tenths s n) 40) (min million (rounded_up (height s n) s + 308)) million

-- one half at the reading, f above it, and below it what g leaves of one at the mirrored offset
abbrev pub mirrored : (ℕ → ℕ) → (ℕ → ℕ) → ℤ → ℕ
mirrored f g (pos zero) = 500000
mirrored f g (pos (suc n)) = f (suc n)
mirrored f g (negsuc n) = million - g (suc n)

-- standard uncertainty s: each end is the other's mirror below the reading
abbrev pub normal : ℕ → Answers
normal s = record { floor = mirrored (floor_above s) (ceiling_above s); ceiling = mirrored (ceiling_above s) (floor_above s); width = 314 }
