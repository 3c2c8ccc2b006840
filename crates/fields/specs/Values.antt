-- How bytes say a number, a limit and a letter.
use Rattle.std.specs.Prelude.{◌≡◌, ℕ, ◌+◌, ◌-◌, ◌*◌, ◌^◌, ◌≤◌, Bool, false, cond, ◌⊎◌, List, [], ◌∷◌, length, ℤ, pos, neg_ℤ, Some, None, Option, ◌==◌}
use Rattle.std.specs.List.{AllByRecursion}

-- a decimal digit, '0' to '9'
pub record Digit (b : ℕ) : Type 0 where
  pub not_below : 48 ≤ b
  pub not_above : b ≤ 57

-- 1 to 10 digits
pub record Numeral (ds : List ℕ) : Type 0 where
  pub some : 1 ≤ length ds
  pub few : length ds ≤ 10
  pub digits : AllByRecursion Digit ds

-- the sum of the digits, each times its power of ten
abbrev pub worth : List ℕ → ℕ
worth [] = 0
worth (d ∷ ds) = (d - 48) * 10 ^ length ds + worth ds

-- a minus stands first
abbrev pub negative : List ℕ → Bool
negative [] = false
negative (b ∷ bs) = b == 45

-- the bytes but for a leading minus
abbrev pub magnitude : List ℕ → List ℕ
magnitude [] = []
magnitude (b ∷ bs) = cond (b == 45) bs (b ∷ bs)

-- a number: an optional minus and 1 to 10 digits
abbrev pub IsNumber : List ℕ → Type 0
IsNumber bs = Numeral (magnitude bs)

abbrev pub number_of : List ℕ → ℤ
number_of bs = cond (negative bs) (neg_ℤ (pos (worth (magnitude bs)))) (pos (worth (magnitude bs)))

-- a limit: a number, or nothing where it is absent
abbrev pub IsLimit : List ℕ → Type 0
IsLimit bs = (bs ≡ []) ⊎ IsNumber bs

abbrev pub SaysLimit : List ℕ → Option ℤ → Type 0
SaysLimit bs None = bs ≡ []
SaysLimit bs (Some v) = IsNumber bs × (v ≡ number_of bs)

-- a letter: one byte
abbrev pub IsLetter : List ℕ → Type 0
IsLetter bs = length bs ≡ 1

abbrev pub SaysLetter : List ℕ → ℕ → Type 0
SaysLetter bs c = bs ≡ c ∷ []
