-- What stands in a lot, and what entering and striking change of it.
use Rattle.std.specs.Prelude.{◌≡◌, ℕ, ◌≤◌, List, ◌∷◌, map, length, drop, ℤ, Some, None, Ok, Err, Option, Result, unsigned_abs}
use Rattle.std.specs.List.{slice_get, insert, remove}
use Rattle.faults.specs.declared.Fault.{Fault}
use Rattle.faults.specs.Faults.{AnswersBy}
use Rattle.knowledge.specs.Knowledge.{Answers}
use Rattle.requirement.specs.declared.requirements.Requirement.{Requirement}
use Rattle.judging.specs.Verdicts.{judged}
use Rattle.judging.specs.Guarantee.{JudgementHolds}
use Rattle.judging.specs.declared.answers.Judgement.{Judgement}
use Rattle.table.specs.Places.{Stands}
use Rattle.table.specs.Tables.{standing, beyond, capacity}
use Rattle.lot.specs.Notes.{item_of}
use Rattle.lot.specs.Rows.{row_of}
use Rattle.lot.specs.Book.{requirement_for, enter_refusal, strike_refusal}
use Rattle.lot.specs.declared.items.Item.{Item}
use Rattle.lot.specs.declared.items.ItemFields.{ItemFields}
use Rattle.lot.specs.declared.items.Row.{Row}
use Rattle.lot_calls.specs.declared.lots.Lot.{Lot}

-- the items that stand, and their numbers
abbrev pub items : Lot → List Item
items l = standing l.table

abbrev pub numbers : Lot → List ℕ
numbers l = map (λ e. e.number) (items l)

-- how many items may stand
abbrev pub room : Lot → ℕ
room l = capacity l.table

-- the row of a class
abbrev pub class_row : Lot → ℕ → Row
class_row l c = row_of c (items l)

-- nothing has changed
abbrev pub Unchanged : Lot → Lot → Type 0
Unchanged l l' = (l'.table ≡ l.table) × (l'.rows ≡ l.rows)

-- an item that was entered stands at a place, in the order that the lot keeps, and uses up the first place beyond
pub record StandsEntered (l : Lot) (e : Item) (l' : Lot) : Type 0 where
  pub place : ℕ
  pub within : place ≤ length (items l)
  pub items_are : items l' ≡ insert (items l) place e
  pub beyond_is : beyond l'.table ≡ drop 1 (beyond l.table)

-- an item, the one of the number, was taken from its place, and now lies in the first place beyond
pub record TakenOut (l : Lot) (number : ℕ) (item : Item) (l' : Lot) : Type 0 where
  pub place : ℕ
  pub stood : slice_get (items l) place ≡ Some item
  pub number_is : item.number ≡ number
  pub items_are : items l' ≡ remove (items l) place
  pub beyond_is : beyond l'.table ≡ item ∷ beyond l.table

-- what taking out leaves: the item of the number is out, or there was none and nothing has changed
abbrev pub TakenIf : Lot → ℕ → Option Item → Lot → Type 0
TakenIf l number (Some e) l' = TakenOut l number e l'
TakenIf l number None l' = (Stands (λ e. e.number) (items l) number → ⊥) × Unchanged l l'

-- an answer is the judgement by the requirement that was found, with what it guarantees
abbrev pub JudgedBy : Option Requirement → ItemFields → Answers → Judgement → Type 0
JudgedBy None f k j = ⊥
JudgedBy (Some q) f k j = (j ≡ judged q f.expanded f.reading k) × JudgementHolds k q f.reading j

-- what entering leaves: the item stands, or the call is refused and nothing has changed
abbrev pub ChangedByEntering : Lot → ItemFields → Result Judgement Fault → Lot → Type 0
ChangedByEntering l f (Ok j) l' = StandsEntered l (item_of f j) l'
ChangedByEntering l f (Err e) l' = Unchanged l l'

pub record Entered (l : Lot) (sheet : List Requirement) (f : ItemFields) (k : Answers) (r : Result Judgement Fault) (l' : Lot) : Type 0 where
  pub answer : AnswersBy (enter_refusal (numbers l) (room l) sheet f k) r (JudgedBy (requirement_for sheet f) f k)
  pub change : ChangedByEntering l f r l'
  pub same_room : room l' ≡ room l

-- what striking leaves: the item is out, or the call is refused and nothing has changed
abbrev pub ChangedByStriking : Lot → ℤ → Result (Unit {0}) Fault → Lot → Type 0
ChangedByStriking l n (Ok x) l' = (e : Item) × TakenOut l (unsigned_abs n) e l'
ChangedByStriking l n (Err e) l' = Unchanged l l'

pub record Struck (l : Lot) (n : ℤ) (r : Result (Unit {0}) Fault) (l' : Lot) : Type 0 where
  pub answer : AnswersBy (strike_refusal (numbers l) n) r (λ x. Unit {0})
  pub change : ChangedByStriking l n r l'
  pub same_room : room l' ≡ room l
