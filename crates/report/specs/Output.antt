-- The output for a text, line by line.
use Rattle.std.specs.Prelude.{◌≡◌, ℕ, ◌+◌, cond, List, [], ◌∷◌, ◌++◌, Some, None, Ok, Err, Option, Result}
use Rattle.std.specs.List.{flat_map}
use Rattle.faults.specs.declared.Fault.{Fault}
use Rattle.records.specs.Entries.{meaning}
use Rattle.lot.specs.Rows.{row_of, some_of}
use Rattle.lot.specs.declared.items.Item.{Item as Entry}
use Rattle.intake.specs.Intake.{State, Taking}
use Rattle.intake.specs.declared.Taken.{Taken}
use Rattle.intake.specs.declared.Taken.TheVariants.{Added, Judged}
use Rattle.lines.specs.Lines.{spelled}
use Rattle.lines.specs.declared.forms.Line.{Line}
use Rattle.lines.specs.declared.forms.Line.TheVariants.{Header, Item, Refused, Class}
use Rattle.report.specs.Reading.{Reads}

-- before the first record: an empty sheet of 100 places and an empty lot of 1,000
abbrev pub at_first : State
at_first = record { sheet_places = 100; requirements = []; lot_places = 1000; entries = [] }

-- the line of a record: none for a requirement that was added, the judgement of an item, or the refusal
abbrev pub line_for : Result Taken Fault → Option Line
line_for (Ok Added) = None
line_for (Ok (Judged n j)) = Some (Item n j)
line_for (Err f) = Some (Refused f)

abbrev pub listed : Option Line → List Line
listed None = []
listed (Some l) = l ∷ []

-- the lines that records give one after the other, where n came before, and what stands after them
pub data Gives : ℕ → List (List (List ℕ)) → State → List Line → State → Type 0 where
  no_more : {n : ℕ} {s : State} → Gives n [] s [] s
  one_more : {n : ℕ} {ws : List (List ℕ)} {rs : List (List (List ℕ))} {s s₁ s₂ : State} {ls : List Line} (r : Result Taken Fault)
      → Taking (n + 1) (meaning (n + 1) ws) s r s₁ → Gives (n + 1) rs s₁ ls s₂ → Gives n (ws ∷ rs) s (listed (line_for r) ++ ls) s₂

-- the line of a refusal that ends the reading
abbrev pub closing : Option Fault → List Line
closing None = []
closing (Some f) = Refused f ∷ []

-- the classes that have an entry, the lowest first, each with its line
abbrev pub class_line : List Entry → ℕ → Option Line
class_line es c = cond (some_of c es) (Some (Class c (row_of c es))) None

abbrev pub classes : List ℕ
classes = 1 ∷ 2 ∷ 3 ∷ 4 ∷ 5 ∷ 6 ∷ 7 ∷ 8 ∷ 9 ∷ []

abbrev pub class_lines : List Entry → List Line
class_lines es = flat_map (λ c. listed (class_line es c)) classes

-- the output for a text: of its one reading, the header, the lines of the records, the refusal that ends it, and the classes
pub record OutputFor (text out : List ℕ) : Type 0 where
  pub records : List (List (List ℕ))
  pub end : Option Fault
  pub reads : Reads text records end
  pub only : (rs : List (List (List ℕ))) (e : Option Fault) → Reads text rs e → (rs ≡ records) × (e ≡ end)
  pub lines : List Line
  pub left : State
  pub gives : Gives 0 records at_first lines left
  pub bytes : out ≡ flat_map spelled (Header ∷ lines ++ closing end ++ class_lines left.entries)
