-- What stands after a requirement was added or an item entered.
use Rattle.std.proofs.Common.{◌≡◌, ℕ, Bool, true, cond, ◌&&◌, ◌||◌, T, eqb, List, ◌∷◌, map, length, ℤ, pos, negsuc, nat_abs, ◌≤ℤ◌, is_some, Some, None, Ok, Err, Option, Result, sym, refl, ap, ◌∙◌, subst, arith, w32, Fits}
use lib.Signed.{non_neg}
use Rattle.std.proofs.lemmas.List.Edits.{length-insert}
use Rattle.std.proofs.lemmas.List.{length-map}
use Rattle.std.proofs.lemmas.Int.{ints}
use Rattle.std.specs.Result.{MatchResult, is_ok}
use Rattle.std.proofs.lemmas.Bool.{true≢false, not-true, and_parts}
use Rattle.faults.specs.Faults.{AnswersBy}
use Rattle.faults.specs.declared.Fault.{Fault}
use Rattle.faults.specs.declared.Refusal.{Refusal}
use Rattle.faults.specs.declared.Refusal.TheVariants.{DuplicateRequirement}
use Rattle.faults.proofs.Checks.{check_passed, first_none, no_refusal, its_value}
use Rattle.requirement.specs.Making.{requirement_refusal, HoldsRow}
use Rattle.requirement.specs.declared.rows.RequirementRow.{RequirementRow}
use Rattle.requirement.specs.declared.requirements.Requirement.{Requirement}
use Rattle.requirement.proofs.Reach.{range_out}
use Rattle.bias.specs.Bias.{kept, shifted}
use Rattle.judging.specs.Verdicts.{judged}
use Rattle.judging.specs.declared.answers.Judgement.{Judgement}
use Rattle.table.specs.declared.Table.{Table}
use Rattle.table.specs.Tables.{standing, capacity}
use Rattle.sheet.specs.Sheets.{lookup, added_refusal, Added}
use Rattle.sheet.specs.declared.sheets.Sheet.{Sheet}
use Rattle.records.specs.Entries.{ItemMeaning, Meaning, a_requirement, item_meant, entry_meant}
use Rattle.records.specs.declared.rows.Entry.{Entry}
use Rattle.records.specs.declared.rows.Entry.TheVariants.{Requirement as Its-requirement}
use Rattle.records.specs.declared.rows.ItemRow.{ItemRow}
use Rattle.lot.proofs.Refusals.{in_range_fields}
use Rattle.lot.specs.Notes.{item_of}
use Rattle.lot.specs.Rows.{row_of}
use Rattle.lot.specs.Book.{is_number, is_named, fields_refusal, stands, enter_refusal, requirement_for}
use Rattle.lot.specs.declared.items.Item.{Item}
use Rattle.lot.specs.declared.items.ItemFields.{ItemFields}
use Rattle.lot_calls.specs.Lots.{items, numbers, room, Unchanged, StandsEntered, JudgedBy, Entered}
use Rattle.lot_calls.specs.declared.lots.Lot.{Lot}
use Rattle.knowledge.specs.Knowledge.{Answers}
use Rattle.intake.specs.Faults.{placed}
use Rattle.kinds.specs.Kinds.{answered, letter_of, spread_of}
use Rattle.kinds.specs.declared.Kind.{Kind}
use Rattle.kinds.specs.declared.Kind.TheVariants.{Normal as N, Rectangular as R}
use Rattle.intake.specs.Items.{kind_by, knowledge_of, fields_of}
use Rattle.intake.specs.Intake.{State, Adding, not_made, not_added, added, Entering, not_entered, entered, judgement_by, Holds, Adds, Enters, LeftByAdding, as_it_was, by_adding}
use Rattle.intake.specs.declared.Taken.TheVariants.{Added as Was-added, Judged}
use Rattle.intake.proofs.Standing.{lookup_inserted, stands_inserted, row_inserted, row_more}

-- a refusal is what its checks say
refused_as : {T : Type 0} (Q : T → Type 0) (o : Option Refusal) (f : Fault) → AnswersBy o (Err f) Q → o ≡ Some f.refusal
refused_as Q None f a = absurd a
refused_as Q (Some e) f a = ap Some (sym (ap (λ x. x.refusal) a))

-- what an answer was before its fault was exchanged, where Q is what the exchange says of the fault
module _ {T : Type 0} (Q : Fault → Type 0) where
  pub was_ok : (r : Result T Fault) (x : T) → MatchResult r (λ y. ◌≡◌ {A = Result T Fault} (Ok x) (Ok y)) Q → true ≡ is_ok r → r ≡ Ok x
  was_ok (Ok y) x h ok = sym h
  was_ok (Err e) x h ok = absurd (true≢false ok)

  pub was_err : (r : Result T Fault) (d : Fault) → MatchResult r (λ y. ◌≡◌ {A = Result T Fault} (Err d) (Ok y)) Q → (e : Fault) × (r ≡ Err e) × Q e
  was_err (Ok y) d h = cc h
  was_err (Err e) d h = (e, refl, h)

abbrev Nothing : Unit {0} → Type 0
Nothing x = Unit {0}

pub made_refused : (n : ℕ) (row : RequirementRow) (f : Fault) (sheet : Sheet) → AnswersBy (requirement_refusal row) (Err f) (HoldsRow row) → Adds n row (Err (placed n f.refusal)) sheet sheet
made_refused n row f sheet a lot s holds = (s, not_made f.refusal (refused_as (HoldsRow row) (requirement_refusal row) f a), holds)

-- a requirement that was not made leaves the table as it was
pub made_none : {entry ord eq partial : _} (row : RequirementRow) (f : Fault) (t : Table Requirement (ℕ × ℕ) entry ord eq partial) → AnswersBy (requirement_refusal row) (Err f) (HoldsRow row) → LeftByAdding row t t
made_none row f t a = as_it_was f.refusal (refused_as (HoldsRow row) (requirement_refusal row) f a) refl

-- one that was made leaves what adding it leaves
pub made_one : {entry ord eq partial : _} (row : RequirementRow) (q : Requirement) (t t' : Table Requirement (ℕ × ℕ) entry ord eq partial) (r : Result (Unit {0}) Fault) → AnswersBy (requirement_refusal row) (Ok q) (HoldsRow row) → Added t q r t' → LeftByAdding row t t'
made_one row q t t' r made done = by_adding q r (no_refusal (HoldsRow row) (requirement_refusal row) q made) (its_value (HoldsRow row) (requirement_refusal row) q made) done

module _ (sheet sheet' : Sheet) (lot : Lot) (q : Requirement) (s : State) (holds : Holds sheet lot s) where
  same_adding : added_refusal (standing sheet.table) (capacity sheet.table) q ≡ added_refusal s.requirements s.sheet_places q
  same_adding = cc (holds.sheet_room, holds.sheet_count, holds.found q.class q.characteristic)

  holds_unchanged : sheet'.table ≡ sheet.table → Holds sheet' lot s
  holds_unchanged same =
      record {
        sheet_room = ap capacity same ∙ holds.sheet_room;
        sheet_count = ap (λ t. length (standing t)) same ∙ holds.sheet_count;
        found = λ c h. ap (λ t. lookup (standing t) c h) same ∙ holds.found c h;
        lot_room = holds.lot_room;
        lot_count = holds.lot_count;
        numbered = holds.numbered;
        rows = holds.rows;
      }

  pub add_refused : (n : ℕ) (row : RequirementRow) (f : Fault) → AnswersBy (requirement_refusal row) (Ok q) (HoldsRow row) → Added sheet.table q (Err f) sheet'.table
      → (s' : State) × Adding n row s (Err (placed n f.refusal)) s' × Holds sheet' lot s'
  add_refused n row f made done =
      (s, not_added q f.refusal (no_refusal (HoldsRow row) (requirement_refusal row) q made) (its_value (HoldsRow row) (requirement_refusal row) q made) (sym same_adding ∙ refused_as Nothing _ f done.answer), holds_unchanged done.change)

  pub was_added : (n : ℕ) (row : RequirementRow) → AnswersBy (requirement_refusal row) (Ok q) (HoldsRow row) → Added sheet.table q (Ok tt) sheet'.table
      → (s' : State) × Adding n row s (Ok Was-added) s' × Holds sheet' lot s'
  was_added n row made done =
      let none = no_refusal Nothing (added_refusal (standing sheet.table) (capacity sheet.table) q) tt done.answer in
      let new = not-true (is_some (lookup (standing sheet.table) q.class q.characteristic)) (check_passed _ DuplicateRequirement _ none) in
      let stands = done.change in
      let key : ℕ → ℕ → Bool = λ c h. eqb q.class c && eqb q.characteristic h in (
        _,
        added q (no_refusal (HoldsRow row) (requirement_refusal row) q made) (its_value (HoldsRow row) (requirement_refusal row) q made) (sym same_adding ∙ none),
        record {
          sheet_room = done.room ∙ holds.sheet_room;
          sheet_count = ap length stands.standing_is ∙ omega (arith, length-insert (standing sheet.table) stands.place q stands.within, holds.sheet_count);
          found = λ c h.
              ap (λ xs. lookup xs c h) stands.standing_is ∙ lookup_inserted q (standing sheet.table) stands.place c h new ∙ ap (λ o. cond (key c h) (Some q) o) (holds.found c h);
          lot_room = holds.lot_room;
          lot_count = holds.lot_count;
          numbered = holds.numbered;
          rows = holds.rows;
        },
      )

-- entering, by what the sheet finds, which numbers stand and how many
module _ (sheet : Sheet) (lot lot' : Lot) (s : State) (holds : Holds sheet lot s) (f : ItemFields) (k : Answers) where
  same_found : requirement_for (standing sheet.table) f ≡ requirement_for s.requirements f
  same_found = holds.found (nat_abs f.class) (nat_abs f.characteristic)

  same_entering : enter_refusal (numbers lot) (room lot) (standing sheet.table) f k ≡ enter_refusal (map (λ x. x.number) s.entries) s.lot_places s.requirements f k
  same_entering =
      let count : length (numbers lot) ≡ length (map (λ x. x.number) s.entries) = length-map (items lot) (λ x. x.number) ∙ holds.lot_count ∙ sym (length-map s.entries (λ x. x.number)) in
      cc (same_found, count, holds.lot_room, holds.numbered (nat_abs f.number))

  lot_unchanged : Unchanged lot lot' → Holds sheet lot' s
  lot_unchanged same =
      record {
        sheet_room = holds.sheet_room;
        sheet_count = holds.sheet_count;
        found = holds.found;
        lot_room = ap capacity same.0 ∙ holds.lot_room;
        lot_count = ap (λ t. length (standing t)) same.0 ∙ holds.lot_count;
        numbered = λ n. ap (λ t. stands (map (λ x. x.number) (standing t)) n) same.0 ∙ holds.numbered n;
        rows = λ c. ap (λ t. row_of c (standing t)) same.0 ∙ holds.rows c;
      }

  holds_entered : (e : Item) → StandsEntered lot e lot' → room lot' ≡ room lot
      → Holds sheet lot' (record { sheet_places = s.sheet_places; requirements = s.requirements; lot_places = s.lot_places; entries = e ∷ s.entries })
  holds_entered e in_place same =
      record {
        sheet_room = holds.sheet_room;
        sheet_count = holds.sheet_count;
        found = holds.found;
        lot_room = same ∙ holds.lot_room;
        lot_count = ap length in_place.items_are ∙ omega (arith, length-insert (items lot) in_place.place e in_place.within, holds.lot_count);
        numbered = λ n.
            ap (λ xs. stands (map (λ x. x.number) xs) n) in_place.items_are ∙ stands_inserted (items lot) in_place.place e n ∙ ap (λ b. eqb e.number n || b) (holds.numbered n);
        rows = λ c.
            ap (row_of c) in_place.items_are ∙ row_inserted c (items lot) in_place.place e ∙ row_more c e (items lot) s.entries (holds.rows c);
      }

-- who was judged was judged by the requirement found
judged_by_found : (o : Option Requirement) (f : ItemFields) (k : Answers) (j : Judgement) → JudgedBy o f k j → (q : Requirement) × (o ≡ Some q) × (j ≡ judged q f.expanded f.reading k)
judged_by_found None f k j by = absurd by
judged_by_found (Some q) f k j by = (q, refl, by.0)

module _ (n : ℕ) (m : ItemMeaning) (sheet : Sheet) (lot lot' : Lot) where
  abbrev JudgementOf : Judgement → Type 0
  JudgementOf = JudgedBy (requirement_for (standing sheet.table) (fields_of m)) (fields_of m) (knowledge_of m)

  pub enter_refused : (f : Fault) → Entered lot (standing sheet.table) (fields_of m) (knowledge_of m) (Err f) lot' → Enters n m (Err (placed n f.refusal)) sheet lot lot'
  enter_refused f done s holds = (
    s,
    not_entered f.refusal (sym (same_entering sheet lot lot' s holds (fields_of m) (knowledge_of m)) ∙ refused_as JudgementOf _ f done.answer),
    lot_unchanged sheet lot lot' s holds (fields_of m) (knowledge_of m) done.change,
  )

  pub was_entered : (j : Judgement) → Entered lot (standing sheet.table) (fields_of m) (knowledge_of m) (Ok j) lot' → Enters n m (Ok (Judged (nat_abs m.item_number) j)) sheet lot lot'
  was_entered j done s holds =
      let none = no_refusal JudgementOf (enter_refusal (numbers lot) (room lot) (standing sheet.table) (fields_of m) (knowledge_of m)) j done.answer in
      let by = judged_by_found (requirement_for (standing sheet.table) (fields_of m)) (fields_of m) (knowledge_of m) j (its_value JudgementOf _ j done.answer) in
      let q = by.0 in
      let in_place = subst (λ (x : Judgement). StandsEntered lot (item_of (fields_of m) x) lot') by.2 done.change in
      let entries-after : State = record { sheet_places = s.sheet_places; requirements = s.requirements; lot_places = s.lot_places; entries = item_of (fields_of m) (judgement_by q m) ∷ s.entries } in
      let step : Entering n m s (Ok (Judged (nat_abs m.item_number) (judgement_by q m))) entries-after =
      entered q (sym (same_entering sheet lot lot' s holds (fields_of m) (knowledge_of m)) ∙ none) (sym (same_found sheet lot lot' s holds (fields_of m) (knowledge_of m)) ∙ by.1) in (
        entries-after,
        subst (λ (x : Judgement). Entering n m s (Ok (Judged (nat_abs m.item_number) x)) entries-after) (sym by.2) step,
        holds_entered sheet lot lot' s holds (fields_of m) (knowledge_of m) (item_of (fields_of m) (judgement_by q m)) in_place done.same_room,
      )

-- a kind answers as its letter and spread say
pub kind_known : (k : Kind) → answered k ≡ kind_by (letter_of k) (nat_abs (spread_of k))
kind_known (N k) = refl
kind_known (R k) = refl

-- the layer over a record's kind answers what is known of its item
pub layered : (row : ItemRow) (below : Kind) (b : ℤ) → below ≡ row.kind → b ≡ kept row.bias → shifted b (answered below) ≡ knowledge_of (item_meant row)
layered row below b is-kind is_bias =
    ap (λ k. shifted b (answered k)) is-kind ∙ ap (λ c. shifted c (answered row.kind)) is_bias ∙ ap (λ k. shifted (kept row.bias) k) (kind_known row.kind)

-- an item that was entered has a number in range
pub entered_number : (lot : Lot) (qs : List Requirement) (f : ItemFields) (k : Answers) (j : Judgement) (lot' : Lot) → Entered lot qs f k (Ok j) lot' → (pos 1 ≤ℤ f.number) × (f.number ≤ℤ pos 999999999)
entered_number lot qs f k j lot' done =
    let none = no_refusal (JudgedBy (requirement_for qs f) f k) (enter_refusal (numbers lot) (room lot) qs f k) j done.answer in
    let fields = in_range_fields f (first_none (fields_refusal f) _ none) in
    let named = (and_parts (is_named f) _ fields).0 in
    range_out (pos 1) (pos 999999999) f.number (and_parts (is_number f.number) _ named).0

-- and such a number fits 32 bits
pub number_cast : (x : ℤ) → (pos 1 ≤ℤ x) × (x ≤ℤ pos 999999999) → T (non_neg x) × Fits w32 (nat_abs x)
number_cast (pos n) range = (tt, omega (arith, ints, range.1))
number_cast (negsuc n) range = absurd (omega (arith, ints, range.0))

-- a record of which a requirement was made means that requirement
pub means_requirement : (row : RequirementRow) (e : Entry) (meant : Result Meaning Fault) → e ≡ Its-requirement row → Ok (entry_meant e) ≡ meant → meant ≡ Ok (a_requirement row)
means_requirement row e meant is means = sym means ∙ ap (λ x. Ok (entry_meant x)) is
