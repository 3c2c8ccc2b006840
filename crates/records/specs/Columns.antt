-- Columns: what the content of a field is refused for.
use Rattle.std.specs.Prelude.{ℕ, Bool, List, [], ◌∷◌, ℤ, pos, neg_ℤ, is_some, None, Option}
use Rattle.faults.specs.declared.Refusal.{Refusal}
use Rattle.faults.specs.declared.Refusal.TheVariants.{NotANumber, OutOfRange, UnknownLetter}
use Rattle.faults.specs.Faults.{check, first_of}
use Rattle.faults.specs.Ranges.{range_refusal}
use Rattle.fields.specs.Values.{number_of}
use Rattle.kinds.specs.Kinds.{known_kind, greatest_spread}
use Rattle.requirement.specs.Limits.{limit_in_reach}
use Rattle.requirement.specs.Rules.{known_letter, mode_of}
use Rattle.records.specs.Tests.{is_number, limit_of, is_letter, letter_of}

abbrev pub Column : Type 0
Column = List ℕ → Option Refusal

-- a field that is looked at elsewhere
abbrev pub anything : Column
anything bs = None

-- a number, a number or nothing, and a letter, whatever their values
abbrev pub a_number : Column
a_number bs = check (is_number bs) NotANumber None

abbrev pub a_limit : Column
a_limit [] = None
a_limit (b ∷ bs) = a_number (b ∷ bs)

abbrev pub a_letter : Column
a_letter bs = check (is_letter bs) UnknownLetter None

-- a number from low to high
abbrev pub number_in : ℤ → ℤ → Column
number_in low high bs = first_of (a_number bs) (range_refusal low high (number_of bs))

-- a letter that is known
abbrev pub letter_in : (ℕ → Bool) → Column
letter_in known bs = first_of (a_letter bs) (check (known (letter_of bs)) UnknownLetter None)

-- a tolerance limit, which may be absent
abbrev pub tolerance_limit_in : Column
tolerance_limit_in bs = first_of (a_limit bs) (check (limit_in_reach (limit_of bs)) OutOfRange None)

-- the number of a mode
abbrev pub mode_in : Column
mode_in bs = first_of (a_number bs) (check (is_some (mode_of (number_of bs))) OutOfRange None)

-- a class, a characteristic and an item's number
abbrev pub class_in : Column
class_in = number_in (pos 1) (pos 9)

abbrev pub characteristic_in : Column
characteristic_in = number_in (pos 1) (pos 20)

abbrev pub item_number_in : Column
item_number_in = number_in (pos 1) (pos 999999999)

-- a reading, or a number of a rule
abbrev pub value_in : Column
value_in = number_in (neg_ℤ (pos 1000000)) (pos 1000000)

-- the letters of a rule and of a kind
abbrev pub rule_in : Column
rule_in = letter_in known_letter

abbrev pub kind_in : Column
kind_in = letter_in known_kind

-- a spread, by the letter of its kind
abbrev pub spread_in : ℕ → Column
spread_in letter = number_in (pos 1) (pos (greatest_spread letter))

-- a bias
abbrev pub bias_in : Column
bias_in = number_in (neg_ℤ (pos 100000)) (pos 100000)
