-- One turn of the reading, and all of them: what is read, what it does, and what is written.
use Rattle.std.specs.Prelude.{◌≡◌, ℕ, ◌+◌, ◌<◌, ◌≤◌, Bool, true, false, List, [], ◌++◌, map, length, Some, Option, Result}
use Rattle.std.specs.List.{flat_map}
use Rattle.faults.specs.declared.Fault.{Fault}
use Rattle.faults.specs.declared.Refusal.TheVariants.{TextTooLong}
use Rattle.faults.specs.Faults.{direct}
use Rattle.text.specs.Content.{saying}
use Rattle.text.specs.Grammar.{Form}
use Rattle.text.specs.Reading.{left, handed, longest}
use Rattle.text.specs.Records.{First}
use Rattle.text.specs.declared.reader.Reader.{Reader}
use Rattle.records.specs.Entries.{meaning}
use Rattle.sheet.specs.declared.sheets.Sheet.{Sheet}
use Rattle.lot_calls.specs.declared.lots.Lot.{Lot}
use Rattle.intake.specs.Intake.{State, Taking, Holds}
use Rattle.intake.specs.declared.Taken.{Taken}
use Rattle.lines.specs.Lines.{spelled}
use Rattle.lines.specs.declared.forms.Line.{Line}
use Rattle.report.specs.Reading.{ReadsOn, Reads}
use Rattle.report.specs.Output.{line_for, listed, closing, Gives}

-- how what is left to a reader reads
pub data Rest (r : Reader) : List (List (List ℕ)) → Option Fault → Type 0 where
  rest_too_long : longest < length (left r) → Rest r [] (Some (direct TextTooLong))
  rest_reads : {rs : List (List (List ℕ))} {end : Option Fault} → length (left r) ≤ longest → ReadsOn (handed r) (left r) rs end → Rest r rs end

-- a record was read and taken in, and its line written
pub record Turned (r r' : Reader) (s : State) (sheet' : Sheet) (lot' : Lot) (old new : List ℕ) : Type 0 where
  pub short : length (left r) ≤ longest
  pub fields : List Form
  pub first : First fields (left r') (left r)
  pub on : handed r' ≡ handed r + 1
  pub shorter : length (left r') < length (left r)
  pub answer : Result Taken Fault
  pub after : State
  pub taking : Taking (handed r + 1) (meaning (handed r + 1) (map saying fields)) s answer after
  pub holds : Holds sheet' lot' after
  pub written : new ≡ old ++ flat_map spelled (listed (line_for answer))

-- there was no further record: what is left has none, and the refusal, if that is why, is written
pub record Finished (r : Reader) (s : State) (sheet' : Sheet) (lot' : Lot) (old new : List ℕ) : Type 0 where
  pub end : Option Fault
  pub rest : Rest r [] end
  pub holds : Holds sheet' lot' s
  pub written : new ≡ old ++ flat_map spelled (closing end)

-- whatever stands, a turn reads a record or finishes
abbrev pub Turn : Reader → Reader → Sheet → Lot → Sheet → Lot → List ℕ → List ℕ → Bool → Type 0
Turn r r' sheet lot sheet' lot' old new true = (s : State) → Holds sheet lot s → Turned r r' s sheet' lot' old new
Turn r r' sheet lot sheet' lot' old new false = (s : State) → Holds sheet lot s → Finished r s sheet' lot' old new

-- a text was read through from the state s, and its lines written
pub record Through (text : List ℕ) (s : State) (sheet' : Sheet) (lot' : Lot) (old new : List ℕ) : Type 0 where
  pub records : List (List (List ℕ))
  pub end : Option Fault
  pub reads : Reads text records end
  pub lines : List Line
  pub after : State
  pub gives : Gives 0 records s lines after
  pub holds : Holds sheet' lot' after
  pub written : new ≡ old ++ flat_map spelled (lines ++ closing end)

abbrev pub ReadsThrough : List ℕ → Sheet → Lot → Sheet → Lot → List ℕ → List ℕ → Type 0
ReadsThrough text sheet lot sheet' lot' old new = (s : State) → Holds sheet lot s → Through text s sheet' lot' old new
