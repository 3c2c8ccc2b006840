-- Cells: what a field says at its place, and the first of a record's that is refused.
use Rattle.std.specs.Prelude.{ℕ, ◌+◌, ◌-◌, List, [], ◌∷◌, map, Some, None, Ok, Err, Option, Result, slice_index_or}
use Rattle.faults.specs.declared.Refusal.{Refusal}
use Rattle.faults.specs.declared.Fault.{Fault}
use Rattle.text.specs.declared.field.Placed.{Placed}
use Rattle.fields.specs.Answers.{said}
use Rattle.records.specs.Columns.{Column}

-- a content with the numbers of its record and its field
pub record Cell : Type 0 where
  pub record_number : ℕ
  pub field_number : ℕ
  pub words : List ℕ

abbrev pub cell : Placed → Cell
cell p = record { record_number = p.«record»; field_number = p.field; words = said p }

abbrev pub cells : List Placed → List Cell
cells ps = map cell ps

-- contents as the cells of record n, from the k-th field on
abbrev pub counted : ℕ → ℕ → List (List ℕ) → List Cell
counted n k [] = []
counted n k (w ∷ ws) = record { record_number = n; field_number = k; words = w } ∷ counted n (k + 1) ws

-- what the cells say, and the content of the k-th field, counted from 1
abbrev pub contents : List Cell → List (List ℕ)
contents cs = map (λ c. c.words) cs

abbrev pub nth_content : ℕ → List (List ℕ) → List ℕ
nth_content k ws = slice_index_or ws (k - 1) []

-- a refusal at a cell
abbrev pub fault_in : Cell → Option Refusal → Option Fault
fault_in c None = None
fault_in c (Some e) = Some (record { refusal = e; «record» = c.record_number; field = c.field_number })

-- the earlier fault, and the later one where there is no earlier one
abbrev pub first_fault : Option Fault → Option Fault → Option Fault
first_fault None later = later
first_fault (Some f) later = Some f

-- the columns over the cells, from left to right: the first refusal
abbrev pub left_to_right : List Column → List Cell → Option Fault
left_to_right [] cs = None
left_to_right (k ∷ ks) [] = None
left_to_right (k ∷ ks) (c ∷ cs) = first_fault (fault_in c (k c.words)) (left_to_right ks cs)

-- the fault, or the value where there is none
abbrev pub outcome : {T : Type 0} → Option Fault → T → Result T Fault
outcome None x = Ok x
outcome (Some f) x = Err f

-- what a column answers of a cell
abbrev pub column_answer : {T : Type 0} → Cell → Column → (List ℕ → T) → Result T Fault
column_answer c k value = outcome (fault_in c (k c.words)) (value c.words)
