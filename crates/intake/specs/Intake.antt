-- What a record does to the requirements and the items that stand.
use Rattle.std.specs.Prelude.{◌≡◌, ℕ, List, ◌∷◌, map, length, Some, None, Ok, Err, Result, unsigned_abs}
use Rattle.faults.specs.declared.Fault.{Fault}
use Rattle.faults.specs.declared.Refusal.{Refusal}
use Rattle.requirement.specs.Making.{requirement_refusal, HoldsRow}
use Rattle.requirement.specs.declared.rows.RequirementRow.{RequirementRow}
use Rattle.requirement.specs.declared.requirements.Requirement.{Requirement}
use Rattle.judging.specs.Verdicts.{judged}
use Rattle.judging.specs.declared.answers.Judgement.{Judgement}
use Rattle.table.specs.declared.Table.{Table}
use Rattle.table.specs.Tables.{standing, capacity}
use Rattle.sheet.specs.Sheets.{lookup, added_refusal, Added as Adding-leaves}
use Rattle.sheet.specs.declared.sheets.Sheet.{Sheet}
use Rattle.records.specs.Entries.{ItemMeaning, Meaning, a_requirement, an_item}
use Rattle.lot.specs.Notes.{item_of}
use Rattle.lot.specs.Rows.{row_of}
use Rattle.lot.specs.Book.{stands, enter_refusal, requirement_for}
use Rattle.lot.specs.declared.items.Item.{Item}
use Rattle.lot_calls.specs.Lots.{items, numbers, room, Unchanged, Entered}
use Rattle.lot_calls.specs.Guarantee.{EntersOn}
use Rattle.lot_calls.specs.declared.lots.Lot.{Lot}
use Rattle.intake.specs.Faults.{placed}
use Rattle.intake.specs.Items.{knowledge_of, fields_of}
use Rattle.intake.specs.declared.Taken.{Taken}
use Rattle.intake.specs.declared.Taken.TheVariants.{Added, Judged}

-- what stands in a sheet and in a lot of so many places, in the order in which it came, the latest first
pub record State : Type 0 where
  pub sheet_places : ℕ
  pub requirements : List Requirement
  pub lot_places : ℕ
  pub entries : List Item

-- the judgement of an item by a requirement
abbrev pub judgement_by : Requirement → ItemMeaning → Judgement
judgement_by q m = judged q (fields_of m).expanded (fields_of m).reading (knowledge_of m)

-- the requirement of record n: refused at its making, refused by the sheet, or added
pub data Adding (n : ℕ) (row : RequirementRow) (s : State) : Result Taken Fault → State → Type 0 where
  not_made : (e : Refusal) → requirement_refusal row ≡ Some e → Adding n row s (Err (placed n e)) s
  not_added : (q : Requirement) (e : Refusal) → requirement_refusal row ≡ None → HoldsRow row q → added_refusal s.requirements s.sheet_places q ≡ Some e → Adding n row s (Err (placed n e)) s
  added : (q : Requirement) → requirement_refusal row ≡ None → HoldsRow row q → added_refusal s.requirements s.sheet_places q ≡ None
      → Adding n row s (Ok Added) (record { sheet_places = s.sheet_places; requirements = q ∷ s.requirements; lot_places = s.lot_places; entries = s.entries })

-- the item of record n: refused, or judged by the requirement that stands for it and entered
pub data Entering (n : ℕ) (m : ItemMeaning) (s : State) : Result Taken Fault → State → Type 0 where
  not_entered : (e : Refusal) → enter_refusal (map (λ x. x.number) s.entries) s.lot_places s.requirements (fields_of m) (knowledge_of m) ≡ Some e → Entering n m s (Err (placed n e)) s
  entered : (q : Requirement) → enter_refusal (map (λ x. x.number) s.entries) s.lot_places s.requirements (fields_of m) (knowledge_of m) ≡ None → requirement_for s.requirements (fields_of m) ≡ Some q
      → Entering n m s (Ok (Judged (unsigned_abs m.item_number) (judgement_by q m)))
      (record { sheet_places = s.sheet_places; requirements = s.requirements; lot_places = s.lot_places; entries = item_of (fields_of m) (judgement_by q m) ∷ s.entries })

-- record n by what it means: a fault of its own, a requirement or an item
abbrev pub Taking : ℕ → Result Meaning Fault → State → Result Taken Fault → State → Type 0
Taking n (Err f) s r s' = (r ≡ Err f) × (s' ≡ s)
Taking n (Ok (a_requirement row)) s r s' = Adding n row s r s'
Taking n (Ok (an_item m)) s r s' = Entering n m s r s'

-- a sheet and a lot hold what stands: the same requirement under each key, the same numbers, the same row of each class, and as many of each
pub record Holds (sheet : Sheet) (lot : Lot) (s : State) : Type 0 where
  pub sheet_room : capacity sheet.table ≡ s.sheet_places
  pub sheet_count : length (standing sheet.table) ≡ length s.requirements
  pub found : (c h : ℕ) → lookup (standing sheet.table) c h ≡ lookup s.requirements c h
  pub lot_room : room lot ≡ s.lot_places
  pub lot_count : length (items lot) ≡ length s.entries
  pub numbered : (k : ℕ) → stands (numbers lot) k ≡ stands (map (λ x. x.number) s.entries) k
  pub rows : (c : ℕ) → row_of c (items lot) ≡ row_of c s.entries

-- whatever stands, a step leaves what the relation says
abbrev pub Steps : (State → State → Type 0) → Sheet → Lot → Sheet → Lot → Type 0
Steps Step sheet lot sheet' lot' = (s : State) → Holds sheet lot s → (s' : State) × Step s s' × Holds sheet' lot' s'

abbrev pub Adds : ℕ → RequirementRow → Result Taken Fault → Sheet → Sheet → Type 0
Adds n row r sheet sheet' = (lot : Lot) → Steps (λ s s'. Adding n row s r s') sheet lot sheet' lot

abbrev pub Enters : ℕ → ItemMeaning → Result Taken Fault → Sheet → Lot → Lot → Type 0
Enters n m r sheet lot lot' = Steps (λ s s'. Entering n m s r s') sheet lot sheet lot'

abbrev pub TakesIn : ℕ → Result Meaning Fault → Result Taken Fault → Sheet → Lot → Sheet → Lot → Type 0
TakesIn n meant r sheet lot sheet' lot' = Steps (λ s s'. Taking n meant s r s') sheet lot sheet' lot'

-- what a record's requirement leaves of a sheet's table: it is as it was where none was made, else what adding the one made leaves
pub data LeftByAdding {entry ord eq partial : _} (row : RequirementRow) (t t' : Table Requirement (ℕ × ℕ) entry ord eq partial) : Type 0 where
  as_it_was : (e : Refusal) → requirement_refusal row ≡ Some e → t' ≡ t → LeftByAdding row t t'
  by_adding : (q : Requirement) (r : Result (Unit {0}) Fault) → requirement_refusal row ≡ None → HoldsRow row q → Adding-leaves t q r t' → LeftByAdding row t t'

-- what a record's item leaves of a lot: what entering it leaves, with what the lot guarantees after this call and all before it
abbrev pub LeftByEntering : ItemMeaning → Sheet → Lot → Lot → Type 0
LeftByEntering m sheet lot lot' =
    (r : Result Judgement Fault) × Entered lot (standing sheet.table) (fields_of m) (knowledge_of m) r lot' × EntersOn lot (standing sheet.table) (fields_of m) (knowledge_of m) r lot'

-- what a record leaves of the sheet and the lot, by what it means: only the one that it is for may change
abbrev pub Leaves : Result Meaning Fault → Sheet → Lot → Sheet → Lot → Type 0
Leaves (Err f) sheet lot sheet' lot' = (sheet'.table ≡ sheet.table) × Unchanged lot lot'
Leaves (Ok (a_requirement row)) sheet lot sheet' lot' = LeftByAdding row sheet.table sheet'.table × Unchanged lot lot'
Leaves (Ok (an_item m)) sheet lot sheet' lot' = (sheet'.table ≡ sheet.table) × LeftByEntering m sheet lot lot'
