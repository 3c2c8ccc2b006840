-- What a content says, as tests and values.
use Rattle.std.specs.Prelude.{ℕ, Bool, true, ◌&&◌, List, [], ◌∷◌, length, ℤ, Some, None, Option, ◌==◌, nat_le}
use Rattle.fields.specs.Values.{magnitude, number_of}

-- every byte is a digit, '0' to '9'
abbrev pub all_digits : List ℕ → Bool
all_digits [] = true
all_digits (d ∷ ds) = (nat_le 48 d && nat_le d 57) && all_digits ds

-- a number: an optional minus and 1 to 10 digits
abbrev pub is_numeral : List ℕ → Bool
is_numeral ds = (nat_le 1 (length ds) && nat_le (length ds) 10) && all_digits ds

abbrev pub is_number : List ℕ → Bool
is_number bs = is_numeral (magnitude bs)

-- the limit: absent where nothing is said, else the number
abbrev pub limit_of : List ℕ → Option ℤ
limit_of [] = None
limit_of (b ∷ bs) = Some (number_of (b ∷ bs))

-- a letter: one byte
abbrev pub is_letter : List ℕ → Bool
is_letter bs = length bs == 1

abbrev pub letter_of : List ℕ → ℕ
letter_of [] = 0
letter_of (b ∷ bs) = b
