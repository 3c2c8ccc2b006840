-- The records: their columns, what they are refused for, and what they mean.
use Rattle.std.specs.Prelude.{ℕ, Bool, false, cond, ◌&&◌, List, [], ◌∷◌, length, ℤ, Some, Ok, Err, Option, Result, ◌==◌}
use Rattle.std.specs.Str.{bytes_eq}
use Rattle.faults.specs.declared.Refusal.TheVariants.{MalformedRecord}
use Rattle.faults.specs.declared.Fault.{Fault}
use Rattle.fields.specs.Values.{number_of}
use Rattle.kinds.specs.Kinds as kinds
use Rattle.requirement.specs.declared.rows.RequirementRow.{RequirementRow}
use Rattle.records.specs.declared.rows.ItemRow.{ItemRow}
use Rattle.records.specs.declared.rows.Entry.{Entry}
use Rattle.records.specs.declared.rows.Entry.TheVariants.{Requirement, Item}
use Rattle.records.specs.Tests.{limit_of, letter_of}
use Rattle.records.specs.Columns.{Column, anything, class_in, characteristic_in, item_number_in, value_in, tolerance_limit_in, rule_in, mode_in, kind_in, spread_in, bias_in}
use Rattle.records.specs.Cells.{Cell, contents, nth_content, counted, left_to_right, outcome}

-- the words REQ and ITEM, by their bytes
abbrev pub word_REQ : List ℕ
word_REQ = 82 ∷ 69 ∷ 81 ∷ []

abbrev pub word_ITEM : List ℕ
word_ITEM = 73 ∷ 84 ∷ 69 ∷ 77 ∷ []

-- a record begins with its word, and has so many fields
abbrev pub is_record : List ℕ → ℕ → List (List ℕ) → Bool
is_record word count [] = false
is_record word count (w ∷ ws) = bytes_eq w word && length (w ∷ ws) == count

abbrev pub is_requirement : List (List ℕ) → Bool
is_requirement ws = is_record word_REQ 9 ws

abbrev pub is_item : List (List ℕ) → Bool
is_item ws = is_record word_ITEM 8 ws

-- after REQ: class, characteristic, lower, upper, rule, first, second, mode
abbrev pub requirement_columns : List Column
requirement_columns =
    class_in ∷ characteristic_in ∷ tolerance_limit_in ∷ tolerance_limit_in ∷ rule_in ∷ value_in ∷ value_in ∷ mode_in ∷ []

-- after ITEM: number, class, characteristic, reading, kind, spread, bias
abbrev pub item_columns : ℕ → List Column
item_columns letter =
    item_number_in ∷ class_in ∷ characteristic_in ∷ value_in ∷ kind_in ∷ spread_in letter ∷ bias_in ∷ []

-- what the contents of a requirement's record say
abbrev pub requirement_of : List (List ℕ) → RequirementRow
requirement_of ws =
    record {
      class = number_of (nth_content 2 ws);
      characteristic = number_of (nth_content 3 ws);
      lower = limit_of (nth_content 4 ws);
      upper = limit_of (nth_content 5 ws);
      letter = letter_of (nth_content 6 ws);
      first = number_of (nth_content 7 ws);
      second = number_of (nth_content 8 ws);
      mode = number_of (nth_content 9 ws);
    }

-- an item with its kind by letter and spread, which decide it
pub record ItemMeaning : Type 0 where
  pub item_number : ℤ
  pub item_class : ℤ
  pub item_characteristic : ℤ
  pub item_reading : ℤ
  pub kind_letter : ℕ
  pub kind_spread : ℤ
  pub item_bias : ℤ

abbrev pub item_of : List (List ℕ) → ItemMeaning
item_of ws =
    record {
      item_number = number_of (nth_content 2 ws);
      item_class = number_of (nth_content 3 ws);
      item_characteristic = number_of (nth_content 4 ws);
      item_reading = number_of (nth_content 5 ws);
      kind_letter = letter_of (nth_content 6 ws);
      kind_spread = number_of (nth_content 7 ws);
      item_bias = number_of (nth_content 8 ws);
    }

-- what a record means
pub data Meaning : Type 0 where
  a_requirement : RequirementRow → Meaning
  an_item : ItemMeaning → Meaning

abbrev pub meaning_of : List (List ℕ) → Meaning
meaning_of ws = cond (is_requirement ws) (a_requirement (requirement_of ws)) (an_item (item_of ws))

-- the fault of record n as a whole
abbrev pub malformed : ℕ → Fault
malformed n = record { refusal = MalformedRecord; «record» = n; field = 0 }

-- the fields after the word from left to right; the letter of the kind decides the range of the spread
abbrev pub requirement_fault : List Cell → Option Fault
requirement_fault cs = left_to_right (anything ∷ requirement_columns) cs

abbrev pub item_fault : List Cell → Option Fault
item_fault cs = left_to_right (anything ∷ item_columns (letter_of (nth_content 6 (contents cs)))) cs

-- the word and the number of fields first, then the fields
abbrev pub entry_fault : ℕ → List Cell → Option Fault
entry_fault n cs =
    cond (is_requirement (contents cs)) (requirement_fault cs) (cond (is_item (contents cs)) (item_fault cs) (Some (malformed n)))

-- the answer of record n with these cells
abbrev pub answer_of : ℕ → List Cell → Result Meaning Fault
answer_of n cs = outcome (entry_fault n cs) (meaning_of (contents cs))

-- the same by the contents alone, where the fields are numbered from 1
abbrev pub meaning : ℕ → List (List ℕ) → Result Meaning Fault
meaning n ws = answer_of n (counted n 1 ws)

-- what typed values mean
abbrev pub item_meant : ItemRow → ItemMeaning
item_meant w =
    record {
      item_number = w.number;
      item_class = w.class;
      item_characteristic = w.characteristic;
      item_reading = w.reading;
      kind_letter = kinds.letter_of w.kind;
      kind_spread = kinds.spread_of w.kind;
      item_bias = w.bias;
    }

abbrev pub entry_meant : Entry → Meaning
entry_meant (Requirement w) = a_requirement w
entry_meant (Item w) = an_item (item_meant w)

-- an answer with what its value means
abbrev pub answer_meant : {S T : Type 0} → (S → T) → Result S Fault → Result T Fault
answer_meant f (Ok x) = Ok (f x)
answer_meant f (Err e) = Err e
