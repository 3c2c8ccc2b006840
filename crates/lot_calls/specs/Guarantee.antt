-- What a lot guarantees after any list of calls since its making.
use Rattle.std.specs.Prelude.{◌≡◌, ℕ, List, ◌∷◌, map, length, ℤ, Some, Result, unsigned_abs}
use Rattle.std.specs.List.{slice_get, AllByRecursion}
use Rattle.std.specs.Option.{option_map}
use Rattle.faults.specs.declared.Fault.{Fault}
use Rattle.faults.specs.Faults.{AnswersBy}
use Rattle.knowledge.specs.Knowledge.{Answers, Rules}
use Rattle.requirement.specs.declared.requirements.Requirement.{Requirement}
use Rattle.judging.specs.Guarantee.{JudgementHolds}
use Rattle.judging.specs.declared.answers.Judgement.{Judgement}
use Rattle.lot.specs.Notes.{Note, stored, passing}
use Rattle.lot.specs.Risks.{SumsHold}
use Rattle.lot.specs.Rows.{row_of}
use Rattle.lot.specs.Book.{Call, enters, strikes, shows, tallies, number_of, requirement_for, enter_refusal, strike_refusal, show_refusal, tally_refusal, book}
use Rattle.lot.specs.declared.items.Item.{Item}
use Rattle.lot.specs.declared.items.ItemFields.{ItemFields}
use Rattle.lot.specs.declared.items.Row.{Row}
use Rattle.lot_calls.specs.Lots.{items, room, class_row, JudgedBy}
use Rattle.lot_calls.specs.declared.lots.Lot.{Lot}

-- a lot keeps a book of so many places: what stands in it is what judging each note gives, and its places are the book's
pub record Keeps (l : Lot) (places : ℕ) (notes : List Note) : Type 0 where
  pub items_are : items l ≡ map stored notes
  pub room_is : room l ≡ places

-- what is stored of a note holds: its bracket for every admitted distribution, with each end met by one, and under the shares
-- rule its verdict is pass exactly when every admitted distribution keeps each side's risk within its share
abbrev pub NoteHolds : Note → Type 0
NoteHolds n = JudgementHolds n.knowledge n.requirement n.fields.reading (stored n).judgement

-- the guarantee of a lot on the notes of its book: each one's stored judgement holds; and in every class the two sums of the row
-- are those over the passes standing, and hold for every choice of an admitted distribution for each of these
pub record Guaranteed (l : Lot) (notes : List Note) : Type 0 where
  pub each_holds : AllByRecursion NoteHolds notes
  pub sums_hold : (c : ℕ) → SumsHold (passing c notes) (class_row l c).lesser (class_row l c).greater

-- a lot after these calls, the latest first: it keeps the book that they make, and guarantees it
pub record StandsAfter (l : Lot) (places : ℕ) (calls : List Call) : Type 0 where
  pub keeps : Keeps l places (book places calls)
  pub guaranteed : Guaranteed l (book places calls)

-- one more call, on the lot l that becomes l': whatever calls came before, the book that they make decides its answer, and the lot
-- stands after all of them
abbrev pub CarriesOn : Lot → Call → (ℕ → List Note → Type 0) → Lot → Type 0
CarriesOn l call Answered l' = (places : ℕ) (calls : List Call) → Keeps l places (book places calls) → Answered places (book places calls) × StandsAfter l' places (call ∷ calls)

-- entering: the state of knowledge keeps the rules; refused as the book decides, else judged by the requirement that was found
abbrev pub EntersOn : Lot → List Requirement → ItemFields → Answers → Result Judgement Fault → Lot → Type 0
EntersOn l sheet f k r l' =
    (rules : Rules k) × CarriesOn l (enters sheet f k rules) (λ places notes. AnswersBy (enter_refusal (map number_of notes) places sheet f k) r (JudgedBy (requirement_for sheet f) f k)) l'

-- striking: refused as the book decides
abbrev pub StrikesOn : Lot → ℤ → Result (Unit {0}) Fault → Lot → Type 0
StrikesOn l n r l' = CarriesOn l (strikes n) (λ places notes. AnswersBy (strike_refusal (map number_of notes) n) r (λ x. Unit {0})) l'

-- showing: each note's item at its place, and no other place
abbrev pub ShowsOn : Lot → ℕ → Result Item Fault → Type 0
ShowsOn l place r = CarriesOn l (shows place) (λ places notes. AnswersBy (show_refusal (length notes) place) r (λ e. option_map stored (slice_get notes place) ≡ Some e)) l

-- a tally: the row of what the notes of the class store, whose two sums hold for the passes standing
abbrev pub TalliesOn : Lot → ℤ → Result Row Fault → Type 0
TalliesOn l c r =
    CarriesOn l (tallies c) (λ places notes. AnswersBy (tally_refusal c) r (λ row. (row ≡ row_of (unsigned_abs c) (map stored notes)) × SumsHold (passing (unsigned_abs c) notes) row.lesser row.greater)) l
