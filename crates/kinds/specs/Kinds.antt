-- The kinds by their letters.
use Rattle.std.specs.Prelude.{◌≡◌, ℕ, Bool, cond, ◌||◌, ℤ, pos, Option, ◌==◌}
use Rattle.faults.specs.declared.Refusal.{Refusal}
use Rattle.faults.specs.declared.Refusal.TheVariants.{UnknownLetter}
use Rattle.faults.specs.Faults.{check}
use Rattle.faults.specs.Ranges.{range_refusal}
use Rattle.knowledge.specs.Knowledge.{Answers}
use Rattle.normal.specs.Normal.{normal}
use Rattle.rectangular.specs.Rectangular.{rectangular}
use Rattle.kinds.specs.declared.Kind.{Kind}
use Rattle.kinds.specs.declared.Kind.TheVariants.{Normal as N, Rectangular as R}

-- each kind answers as it does by itself
abbrev pub answered : Kind → Answers
answered (N k) = normal k.standard_uncertainty
answered (R k) = rectangular k.half_width

-- the letter that names a kind, by its code: N is 78, R is 82
abbrev pub letter_of : Kind → ℕ
letter_of (N k) = 78
letter_of (R k) = 82

-- the spread that a kind has: the standard uncertainty or the half-width
abbrev pub spread_of : Kind → ℤ
spread_of (N k) = pos k.standard_uncertainty
spread_of (R k) = pos k.half_width

-- the letters N and R, and the greatest spread of each
abbrev pub known_kind : ℕ → Bool
known_kind letter = letter == 78 || letter == 82

abbrev pub greatest_spread : ℕ → ℕ
greatest_spread letter = cond (letter == 78) 100000 400000

-- what a letter and a spread are refused for: the letter is looked at first, then the range of its spreads
abbrev pub kind_refusal : ℕ → ℤ → Option Refusal
kind_refusal letter spread = check (known_kind letter) UnknownLetter (range_refusal (pos 1) (pos (greatest_spread letter)) spread)

-- a kind has the letter and the spread that it was made with, which decide it
pub record HasGiven (letter : ℕ) (spread : ℤ) (k : Kind) : Type 0 where
  pub letter_is : letter_of k ≡ letter
  pub spread_is : spread_of k ≡ spread
