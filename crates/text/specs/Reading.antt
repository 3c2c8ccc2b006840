-- What a reader holds, and what it answers.
use Rattle.std.specs.Prelude.{◌≡◌, ℕ, ◌+◌, ◌<◌, ◌≤◌, List, [], length, Some, None, Ok, Err, Option, Result}
use Rattle.std.specs.List.{AllByRecursion}
use Rattle.faults.specs.declared.Fault.{Fault}
use Rattle.faults.specs.declared.Refusal.TheVariants.{TextTooLong}
use Rattle.faults.specs.Faults.{direct}
use Rattle.text.specs.declared.field.Placed.{Placed}
use Rattle.text.specs.declared.reader.Reader.{Reader}
use Rattle.text.specs.declared.reader.methods.Record.{Record}
use Rattle.text.specs.Content.{holds, Doubled, Part}
use Rattle.text.specs.Fronts.{forms, Numbered, laid}
use Rattle.text.specs.Records.{First, Broken}

-- the bytes that are left to read, and how many records were handed out
abbrev pub left : Reader → List ℕ
left r = r.rest.now

abbrev pub handed : Reader → ℕ
handed r = r.«record»

-- the length of the longest text
abbrev pub longest : ℕ
longest = 65536

-- the reader r hands out its next record and becomes s: the record's fields ps carry their numbers and are laid over the list
pub record Hands (r s : Reader) (old new : List Placed) (answer : Record) : Type 0 where
  pub short : length (left r) ≤ longest
  pub ps : List Placed
  pub first : First (forms ps) (left s) (left r)
  pub numbered : Numbered (handed r + 1) 1 ps
  pub parts : AllByRecursion (λ f. Part (left r) (holds f)) (forms ps)
  pub doubled : AllByRecursion Doubled (forms ps)
  pub number_is : answer.number ≡ handed r + 1
  pub count_is : answer.count ≡ length ps
  pub written : new ≡ laid ps old
  pub on : handed s ≡ handed r + 1
  pub shorter : length (left s) < length (left r)

-- the text is refused: it is too long, or its next record breaks at a field
pub data Refuses (r : Reader) (f : Fault) : Type 0 where
  too_long : longest < length (left r) → f ≡ direct TextTooLong → Refuses r f
  broken : length (left r) ≤ longest → f.«record» ≡ handed r + 1 → Broken f.refusal f.field (left r) → Refuses r f

-- what the reader r answers, the reader s that it becomes, and the caller's list before and after
abbrev pub Reads : Reader → Reader → List Placed → List Placed → Result (Option Record) Fault → Type 0
Reads r s old new (Ok None) = (left r ≡ []) × (s ≡ r) × (new ≡ old)
Reads r s old new (Ok (Some answer)) = Hands r s old new answer
Reads r s old new (Err f) = Refuses r f × (s ≡ r) × (new ≡ old)
