-- The book of a lot: drawn from the making and the calls alone.
use Rattle.std.specs.Prelude.{ℕ, Bool, false, cond, not, ◌&&◌, ◌||◌, List, [], ◌∷◌, map, length, ℤ, pos, Some, None, Option, ◌==◌, nat_lt, unsigned_abs}
use Rattle.faults.specs.declared.Refusal.{Refusal}
use Rattle.faults.specs.declared.Refusal.TheVariants.{OutOfRange, DuplicateItem, LotFull, NoItem, NoPlace, NoRequirement}
use Rattle.faults.specs.Faults.{check, first_of}
use Rattle.faults.specs.Ranges.{from_to}
use Rattle.knowledge.specs.Knowledge.{Answers, Rules}
use Rattle.requirement.specs.Limits.{in_reach}
use Rattle.requirement.specs.Requirements.{is_class, is_characteristic}
use Rattle.requirement.specs.declared.requirements.Requirement.{Requirement}
use Rattle.acceptance.specs.Guard.{is_expanded}
use Rattle.judging.specs.Verdicts.{judge_refusal}
use Rattle.sheet.specs.Sheets.{lookup}
use Rattle.lot.specs.Notes.{Note}
use Rattle.lot.specs.declared.items.ItemFields.{ItemFields}

-- item numbers run from 1 to 999,999,999
abbrev pub is_number : ℤ → Bool
is_number x = from_to (pos 1) (pos 999999999) x

-- number, class and characteristic are in range
abbrev pub is_named : ItemFields → Bool
is_named f = is_number f.number && (is_class f.class && is_characteristic f.characteristic)

-- and so is every other field
abbrev pub in_range : ItemFields → Bool
in_range f = is_named f && (is_expanded f.expanded && in_reach f.reading)

-- the fields are in range
abbrev pub fields_refusal : ItemFields → Option Refusal
fields_refusal f =
    check (is_number f.number) OutOfRange
    (check (is_class f.class) OutOfRange
    (check (is_characteristic f.characteristic) OutOfRange
    (check (is_expanded f.expanded) OutOfRange (check (in_reach f.reading) OutOfRange None))))

-- a number is among those that stand
abbrev pub stands : List ℕ → ℕ → Bool
stands [] n = false
stands (m ∷ ms) n = m == n || stands ms n

-- there is room for one more under this number
abbrev pub room_refusal : List ℕ → ℕ → ℤ → Option Refusal
room_refusal numbers places n = check (not (stands numbers (unsigned_abs n))) DuplicateItem (check (nat_lt (length numbers) places) LotFull None)

-- the requirement that the sheet has for the item, and judging by it
abbrev pub judged_refusal : Option Requirement → ItemFields → Answers → Option Refusal
judged_refusal None f k = Some NoRequirement
judged_refusal (Some q) f k = judge_refusal q f.expanded f.reading k

abbrev pub requirement_for : List Requirement → ItemFields → Option Requirement
requirement_for sheet f = lookup sheet (unsigned_abs f.class) (unsigned_abs f.characteristic)

-- what entering is refused for, in this order, where these numbers stand in a lot of so many places
abbrev pub enter_refusal : List ℕ → ℕ → List Requirement → ItemFields → Answers → Option Refusal
enter_refusal numbers places sheet f k =
    first_of (fields_refusal f) (first_of (room_refusal numbers places f.number) (judged_refusal (requirement_for sheet f) f k))

-- what a number is refused for
abbrev pub number_refusal : ℤ → Option Refusal
number_refusal n = check (is_number n) OutOfRange None

-- what striking is refused for, in this order
abbrev pub strike_refusal : List ℕ → ℤ → Option Refusal
strike_refusal numbers n = check (is_number n) OutOfRange (check (stands numbers (unsigned_abs n)) NoItem None)

-- what showing a place is refused for, where so many stand
abbrev pub show_refusal : ℕ → ℕ → Option Refusal
show_refusal count place = check (nat_lt place count) NoPlace None

-- what a tally is refused for
abbrev pub tally_refusal : ℤ → Option Refusal
tally_refusal c = check (is_class c) OutOfRange None

-- the number under which a note stands
abbrev pub number_of : Note → ℕ
number_of n = unsigned_abs n.fields.number

-- a book keeps its notes in the order of their numbers
abbrev pub noted : Note → List Note → List Note
noted n [] = n ∷ []
noted n (m ∷ ms) = cond (nat_lt (number_of n) (number_of m)) (n ∷ m ∷ ms) (m ∷ noted n ms)

abbrev pub struck : ℕ → List Note → List Note
struck n [] = []
struck n (m ∷ ms) = cond (number_of m == n) ms (m ∷ struck n ms)

-- the calls of a lot, with their arguments; entering has the sheet's requirements and what the state of knowledge answers
pub data Call : Type 0 where
  enters : List Requirement → ItemFields → (k : Answers) → Rules k → Call
  strikes : ℤ → Call
  shows : ℕ → Call
  tallies : ℤ → Call

-- an entry that is not refused adds a note with the requirement found
abbrev pub note_if : Option Refusal → Option Requirement → ItemFields → (k : Answers) → Rules k → List Note → List Note
note_if (Some e) q f k r notes = notes
note_if None None f k r notes = notes
note_if None (Some q) f k r notes = noted (record { fields = f; requirement = q; knowledge = k; rules = r }) notes

-- a strike that is not refused removes its number's note
abbrev pub strike_if : Option Refusal → ℕ → List Note → List Note
strike_if (Some e) n notes = notes
strike_if None n notes = struck n notes

-- what one call does to the book of a lot of so many places
abbrev pub after : ℕ → Call → List Note → List Note
after places (enters sheet f k r) notes = note_if (enter_refusal (map number_of notes) places sheet f k) (requirement_for sheet f) f k r notes
after places (strikes n) notes = strike_if (strike_refusal (map number_of notes) n) (unsigned_abs n) notes
after places (shows place) notes = notes
after places (tallies c) notes = notes

-- the book after a list of calls since the making, the latest first
abbrev pub book : ℕ → List Call → List Note
book places [] = []
book places (c ∷ earlier) = after places c (book places earlier)
