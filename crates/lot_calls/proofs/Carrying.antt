-- From one call to the law over runs: a lot that keeps its book keeps it through each call, and guarantees it.
use Rattle.std.proofs.Common.{◌≡◌, ℕ, zero, suc, ◌≤◌, List, [], ◌∷◌, map, length, ℤ, nat_abs, Some, None, Ok, Err, Option, Result, sym, refl, ap, ◌∙◌, subst, arith}
use Rattle.std.specs.List.{slice_get, insert, remove, AllByRecursion}
use Rattle.std.specs.Option.{option_map}
use Rattle.std.proofs.lemmas.List.{length-map}
use Rattle.faults.specs.Faults.{AnswersBy}
use Rattle.faults.specs.declared.Fault.{Fault}
use Rattle.faults.specs.declared.Refusal.{Refusal}
use Rattle.faults.proofs.Checks.{no_refusal, its_value}
use Rattle.knowledge.specs.Knowledge.{Answers, Rules}
use Rattle.requirement.specs.declared.requirements.Requirement.{Requirement}
use Rattle.judging.specs.declared.answers.Judgement.{Judgement}
use Rattle.judging.proofs.Order.{judged_holds}
use Rattle.table.specs.Tables.{standing, capacity}
use Rattle.std.proofs.lemmas.Option.{slice_get_within}
use Rattle.lot.specs.Notes.{Note, Judgeable, stored, item_of, passing}
use Rattle.lot.specs.Risks.{SumsHold}
use Rattle.lot.specs.Rows.{row_of}
use Rattle.lot.specs.Book.{number_of, struck, Call, enters, strikes, shows, tallies, requirement_for, enter_refusal, strike_refusal, show_refusal, tally_refusal, note_if, strike_if, book}
use Rattle.lot.specs.declared.items.Item.{Item}
use Rattle.lot.specs.declared.items.ItemFields.{ItemFields}
use Rattle.lot.specs.declared.items.Row.{Row}
use Rattle.lot.proofs.ClassSums.{lesser_is, greater_is}
use Rattle.lot.proofs.Noted.{Rising, noted_at, struck_at, numbers_stored}
use Rattle.lot.proofs.Runs.{judgeable, all_passing}
use Rattle.lot.proofs.SumsHold.{sums_hold}
use Rattle.lot_calls.specs.Lots.{items, numbers, room, class_row, Unchanged, JudgedBy, Entered, Struck}
use Rattle.lot_calls.specs.Guarantee.{Keeps, NoteHolds, StandsAfter, EntersOn, StrikesOn, ShowsOn, TalliesOn}
use Rattle.lot_calls.specs.declared.lots.Lot.{Lot}

-- a note that can be judged holds
each_holds : (ns : List Note) → AllByRecursion Judgeable ns → AllByRecursion NoteHolds ns
each_holds [] h = tt
each_holds (n ∷ ns) h = (judged_holds n.knowledge n.rules n.requirement n.fields.expanded n.fields.reading h.0, each_holds ns h.1)

-- whoever keeps the book of some calls guarantees it
pub stands_after : (l : Lot) (places : ℕ) (calls : List Call) → Keeps l places (book places calls) → StandsAfter l places calls
stands_after l places calls keeps =
    let ns = book places calls in
    let can = judgeable places calls in
    record {
      keeps = keeps;
      guaranteed = record {
        each_holds = each_holds ns can;
        sums_hold = λ c.
            let row = ap (row_of c) keeps.items_are in
            let lesser = ap (λ r. r.lesser) row ∙ lesser_is c ns in
            let greater = ap (λ r. r.greater) row ∙ greater_is c ns in
            subst (λ (a : ℕ). SumsHold (passing c ns) a (class_row l c).greater) (sym lesser)
            (subst (SumsHold (passing c ns) _) (sym greater) (sums_hold (passing c ns) (all_passing Judgeable c ns can)));
      };
    }

module _ (l : Lot) (places : ℕ) (ns : List Note) (keeps : Keeps l places ns) where
  -- the numbers of a lot are those of the book that it keeps
  pub numbers_kept : numbers l ≡ map number_of ns
  numbers_kept = ap (map (λ e. e.number)) keeps.items_are ∙ numbers_stored ns

  pub count_kept : length (items l) ≡ length ns
  count_kept = ap length keeps.items_are ∙ length-map ns stored

  -- a lot that has not changed keeps its book
  pub keeps_unchanged : (l' : Lot) → Unchanged l l' → Keeps l' places ns
  keeps_unchanged l' same = record { items_are = ap standing same.0 ∙ keeps.items_are; room_is = ap capacity same.0 ∙ keeps.room_is }

-- a refused call leaves the book
note_refused : {T : Type 0} (Q : T → Type 0) (o : Option Refusal) (e : Fault) (q : Option Requirement) (f : ItemFields) (k : Answers) (r : Rules k) (ns : List Note) → AnswersBy o (Err e) Q → note_if o q f k r ns ≡ ns
note_refused Q None e q f k r ns a = absurd a
note_refused Q (Some x) e q f k r ns a = refl

strike_refused : {T : Type 0} (Q : T → Type 0) (o : Option Refusal) (e : Fault) (n : ℕ) (ns : List Note) → AnswersBy o (Err e) Q → strike_if o n ns ≡ ns
strike_refused Q None e n ns a = absurd a
strike_refused Q (Some x) e n ns a = refl

-- entering
module _ (f : ItemFields) (k : Answers) (rules : Rules k) where
  abbrev note_of : Requirement → Note
  note_of q = record { fields = f; requirement = q; knowledge = k; rules = rules }

  -- an item stored with its judgement is what its note gives
  noted_items : (o : Option Requirement) (j : Judgement) (ns : List Note) (xs ys : List Item) (i : ℕ) → JudgedBy o f k j → xs ≡ map stored ns → i ≤ length xs → ys ≡ insert xs i (item_of f j) → Rising ys
      → ys ≡ map stored (note_if None o f k rules ns)
  noted_items None j ns xs ys i by are within new up = absurd by
  noted_items (Some q) j ns xs ys i by are within new up =
      let same : ys ≡ insert (map stored ns) i (stored (note_of q)) = new ∙ ap (λ zs. insert zs i (item_of f j)) are ∙ ap (λ x. insert (map stored ns) i (item_of f x)) by.0 in
      same ∙ noted_at ns (note_of q) i (omega (arith, ap length are, length-map ns stored)) (subst Rising same up)

  module _ (l : Lot) (sheet : List Requirement) (l' : Lot) (places : ℕ) (calls : List Call) (keeps : Keeps l places (book places calls)) where
    abbrev by_book : Option Refusal
    by_book = enter_refusal (map number_of (book places calls)) places sheet f k

    abbrev Judged : Judgement → Type 0
    Judged = JudgedBy (requirement_for sheet f) f k

    answer_kept : (r : Result Judgement Fault) → Entered l sheet f k r l' → AnswersBy by_book r Judged
    answer_kept r done =
        subst (λ (n : ℕ). AnswersBy (enter_refusal (map number_of (book places calls)) n sheet f k) r Judged) keeps.room_is
        (subst (λ (ms : List ℕ). AnswersBy (enter_refusal ms (room l) sheet f k) r Judged) (numbers_kept l places (book places calls) keeps) done.answer)

    keeps_entered : (r : Result Judgement Fault) → Entered l sheet f k r l' → Keeps l' places (book places (enters sheet f k rules ∷ calls))
    keeps_entered (Err e) done =
        subst (Keeps l' places) (sym (note_refused Judged by_book e (requirement_for sheet f) f k rules (book places calls) (answer_kept (Err e) done))) (keeps_unchanged l places (book places calls) keeps l' done.change)
    keeps_entered (Ok j) done =
        let answer = answer_kept (Ok j) done in
        let none = no_refusal Judged by_book j answer in
        let stands = done.change in
        let are = noted_items (requirement_for sheet f) j (book places calls) (items l) (items l') stands.place (its_value Judged by_book j answer) keeps.items_are stands.within stands.items_are l'.table.ordered.1 in
        subst (λ (o : Option Refusal). Keeps l' places (note_if o (requirement_for sheet f) f k rules (book places calls))) (sym none)
        (record { items_are = are; room_is = done.same_room ∙ keeps.room_is })

  pub entered_carries : (l : Lot) (sheet : List Requirement) (r : Result Judgement Fault) (l' : Lot) → Entered l sheet f k r l'
      → EntersOn l sheet f k r l'
  entered_carries l sheet r l' done = (
    rules,
    λ places calls keeps.
        (answer_kept l sheet l' places calls keeps r done, stands_after l' places (enters sheet f k rules ∷ calls) (keeps_entered l sheet l' places calls keeps r done)),
  )

-- striking
module _ (l : Lot) (n : ℤ) (l' : Lot) (places : ℕ) (calls : List Call) (keeps : Keeps l places (book places calls)) where
  abbrev struck_by_book : Option Refusal
  struck_by_book = strike_refusal (map number_of (book places calls)) n

  abbrev NothingMore : Unit {0} → Type 0
  NothingMore x = Unit {0}

  strike_kept : (r : Result (Unit {0}) Fault) → Struck l n r l' → AnswersBy struck_by_book r NothingMore
  strike_kept r done = subst (λ (ms : List ℕ). AnswersBy (strike_refusal ms n) r NothingMore) (numbers_kept l places (book places calls) keeps) done.answer

  keeps_struck : (r : Result (Unit {0}) Fault) → Struck l n r l' → Keeps l' places (book places (strikes n ∷ calls))
  keeps_struck (Err e) done =
      subst (Keeps l' places) (sym (strike_refused NothingMore struck_by_book e (nat_abs n) (book places calls) (strike_kept (Err e) done))) (keeps_unchanged l places (book places calls) keeps l' done.change)
  keeps_struck (Ok x) done =
      let none = no_refusal NothingMore struck_by_book x (strike_kept (Ok x) done) in
      let e = done.change.0 in
      let out = done.change.1 in
      let ns = book places calls in
      let at = sym (ap (λ xs. slice_get xs out.place) keeps.items_are) ∙ out.stood in
      let are : items l' ≡ map stored (struck (nat_abs n) ns) =
      out.items_are ∙ ap (λ xs. remove xs out.place) keeps.items_are ∙ struck_at ns out.place e at (subst Rising keeps.items_are l.table.ordered.1) ∙ ap (λ m. map stored (struck m ns)) out.number_is in
      subst (λ (o : Option Refusal). Keeps l' places (strike_if o (nat_abs n) ns)) (sym none) (record { items_are = are; room_is = done.same_room ∙ keeps.room_is })

pub struck_carries : (l : Lot) (n : ℤ) (r : Result (Unit {0}) Fault) (l' : Lot) → Struck l n r l' → StrikesOn l n r l'
struck_carries l n r l' done places calls keeps =
    (strike_kept l n l' places calls keeps r done, stands_after l' places (strikes n ∷ calls) (keeps_struck l n l' places calls keeps r done))

-- showing and telling a row change nothing
nth_stored : (ns : List Note) (place : ℕ) (e : Item) → slice_get (map stored ns) place ≡ Some e → option_map stored (slice_get ns place) ≡ Some e
nth_stored [] place e at = absurd (omega (arith, slice_get_within [] place e at))
nth_stored (n ∷ ns) zero e at = at
nth_stored (n ∷ ns) (suc place) e at = nth_stored ns place e at

module _ (l : Lot) (place : ℕ) (ns : List Note) (are : items l ≡ map stored ns) where
  shown_kept : (o : Option Refusal) (r : Result Item Fault) → AnswersBy o r (λ e. slice_get (items l) place ≡ Some e) → AnswersBy o r (λ e. option_map stored (slice_get ns place) ≡ Some e)
  shown_kept None (Ok e) a = nth_stored ns place e (sym (ap (λ xs. slice_get xs place) are) ∙ a)
  shown_kept None (Err f) a = a
  shown_kept (Some x) (Ok e) a = a
  shown_kept (Some x) (Err f) a = a

pub shown_carries : (l : Lot) (place : ℕ) (r : Result Item Fault) → AnswersBy (show_refusal (length (items l)) place) r (λ e. slice_get (items l) place ≡ Some e) → ShowsOn l place r
shown_carries l place r a places calls keeps =
    let ns = book places calls in (
      shown_kept l place ns keeps.items_are (show_refusal (length ns) place) r
          (subst (λ (n : ℕ). AnswersBy (show_refusal n place) r (λ e. slice_get (items l) place ≡ Some e)) (count_kept l places ns keeps) a),
      stands_after l places (shows place ∷ calls) keeps,
    )

module _ (l : Lot) (c : ℕ) (ns : List Note) (row_is : class_row l c ≡ row_of c (map stored ns)) (holds : SumsHold (passing c ns) (class_row l c).lesser (class_row l c).greater) where
  row_kept : (row : Row) → row ≡ class_row l c → (row ≡ row_of c (map stored ns)) × SumsHold (passing c ns) row.lesser row.greater
  row_kept row is = (is ∙ row_is, subst (λ (r : Row). SumsHold (passing c ns) r.lesser r.greater) (sym is) holds)

  told_kept : (o : Option Refusal) (r : Result Row Fault) → AnswersBy o r (λ row. row ≡ class_row l c) → AnswersBy o r (λ row. (row ≡ row_of c (map stored ns)) × SumsHold (passing c ns) row.lesser row.greater)
  told_kept None (Ok row) a = row_kept row a
  told_kept None (Err f) a = a
  told_kept (Some x) (Ok row) a = a
  told_kept (Some x) (Err f) a = a

pub tallied_carries : (l : Lot) (c : ℤ) (r : Result Row Fault) → AnswersBy (tally_refusal c) r (λ row. row ≡ class_row l (nat_abs c)) → TalliesOn l c r
tallied_carries l c r a places calls keeps =
    let after = stands_after l places (tallies c ∷ calls) keeps in
    (told_kept l (nat_abs c) (book places calls) (ap (row_of (nat_abs c)) keeps.items_are) (after.guaranteed.sums_hold (nat_abs c)) (tally_refusal c) r a, after)
