-- What each way out of striking and entering leaves.
use Rattle.std.proofs.Common.{◌≡◌, Bool, true, leb, List, ℤ, nat_abs, None, Ok, Err, Option, Result, sym, refl, ap, ◌∙◌, subst}
use Rattle.std.proofs.lemmas.Option.{slice_get_within, get_or_from_slice_get}
use Rattle.std.proofs.lemmas.Bool.{le-leb, and_from}
use Rattle.faults.specs.Faults.{direct, check, first_of, AnswersBy}
use Rattle.faults.specs.declared.Fault.{Fault}
use Rattle.faults.specs.declared.Refusal.{Refusal}
use Rattle.faults.specs.declared.Refusal.TheVariants.{NoItem}
use Rattle.faults.proofs.Checks.{passed, failed, no_refusal, refuses_first, passes_first}
use Rattle.knowledge.specs.Knowledge.{Answers}
use Rattle.requirement.specs.declared.requirements.Requirement.{Requirement}
use Rattle.judging.specs.declared.answers.Judgement.{Judgement}
use Rattle.table.specs.Places.{Stands}
use Rattle.table.proofs.Standing.{stands_at}
use Rattle.lot.specs.Notes.{item_of}
use Rattle.lot.specs.Rows.{of_a_class}
use Rattle.lot.specs.Book.{stands, in_range, strike_refusal, number_refusal, fields_refusal, room_refusal, judged_refusal, requirement_for}
use Rattle.lot.specs.declared.items.Item.{Item}
use Rattle.lot.specs.declared.items.ItemFields.{ItemFields}
use Rattle.lot.proofs.Noted.{stands_has, absent_stands}
use Rattle.lot.proofs.Refusals.{struck_in_turn, in_range_fields}
use Rattle.lot_calls.specs.Lots.{items, numbers, room, Unchanged, StandsEntered, TakenOut, JudgedBy, Entered, Struck}
use Rattle.lot_calls.specs.declared.lots.Lot.{Lot}
use Rattle.lot_calls.proofs.Answering.{fitting}

abbrev pub Nothing : Unit {0} → Type 0
Nothing x = Unit {0}

module _ (l : Lot) (n : ℤ) where
  abbrev stood : Bool
  stood = stands (numbers l) (nat_abs n)

  -- the number's refusal comes before the refusal of what does not stand
  in_turn : (r : Result (Unit {0}) Fault) → AnswersBy (first_of (number_refusal n) (check stood NoItem None)) r Nothing → AnswersBy (strike_refusal (numbers l) n) r Nothing
  in_turn r a = subst (λ (o : Option Refusal). AnswersBy o r Nothing) (sym (struck_in_turn (numbers l) n)) a

  module _ (l' : Lot) (number : AnswersBy (number_refusal n) (Ok tt) Nothing) (keeps : room l' ≡ room l) where
    pub none_out : (Stands (λ e. e.number) (items l) (nat_abs n) → ⊥) → Unchanged l l' → Struck l n (Err (direct NoItem)) l'
    none_out absent same =
        record {
          answer = in_turn (Err (direct NoItem))
              (passes_first Nothing (number_refusal n) (check stood NoItem None) (Err (direct NoItem)) (no_refusal Nothing (number_refusal n) tt number)
              (failed Nothing stood NoItem None (absent_stands (numbers l) (nat_abs n) absent)));
          change = same;
          same_room = keeps;
        }

    pub one_out : (e : Item) → TakenOut l (nat_abs n) e l' → Struck l n (Ok tt) l'
    one_out e out =
        let has = stands_at (λ (e : Item). e.number) (nat_abs n) (items l) out.place (slice_get_within (items l) out.place e out.stood)
        (λ d. ap (λ (x : Item). x.number) (get_or_from_slice_get (items l) out.place e d out.stood) ∙ out.number_is) in
        record {
          answer = in_turn (Ok tt)
              (passes_first Nothing (number_refusal n) (check stood NoItem None) (Ok tt) (no_refusal Nothing (number_refusal n) tt number)
              (passed Nothing stood NoItem None (Ok tt) (stands_has (numbers l) (nat_abs n) has) tt));
          change = (e, out);
          same_room = keeps;
        }

module _ (l : Lot) (sheet : List Requirement) (f : ItemFields) (k : Answers) where
  abbrev Judged : Judgement → Type 0
  Judged = JudgedBy (requirement_for sheet f) f k

  abbrev for_room : Option Refusal
  for_room = room_refusal (numbers l) (room l) f.number

  abbrev for_judging : Option Refusal
  for_judging = judged_refusal (requirement_for sheet f) f k

  pub out_of_range : (e : Fault) → AnswersBy (fields_refusal f) (Err e) Nothing → Entered l sheet f k (Err e) l
  out_of_range e a = record { answer = refuses_first Nothing Judged (fields_refusal f) (first_of for_room for_judging) e a; change = (refl, refl); same_room = refl }

  module _ (fields : AnswersBy (fields_refusal f) (Ok tt) Nothing) where
    pub no_room : (e : Fault) → AnswersBy for_room (Err e) Nothing → Entered l sheet f k (Err e) l
    no_room e a =
        record {
          answer = passes_first Judged (fields_refusal f) (first_of for_room for_judging) (Err e) (no_refusal Nothing (fields_refusal f) tt fields) (refuses_first Nothing Judged for_room for_judging e a);
          change = (refl, refl);
          same_room = refl;
        }

    module _ (free : AnswersBy for_room (Ok tt) Nothing) where
      pub not_judged : (e : Fault) → AnswersBy for_judging (Err e) Judged → Entered l sheet f k (Err e) l
      not_judged e a =
          record {
            answer = passes_first Judged (fields_refusal f) (first_of for_room for_judging) (Err e) (no_refusal Nothing (fields_refusal f) tt fields)
                (passes_first Judged for_room for_judging (Err e) (no_refusal Nothing for_room tt free) a);
            change = (refl, refl);
            same_room = refl;
          }

      pub entered : (j : Judgement) (l' : Lot) → AnswersBy for_judging (Ok j) Judged → StandsEntered l (item_of f j) l' → room l' ≡ room l → Entered l sheet f k (Ok j) l'
      entered j l' a stands keeps =
          record {
            answer = passes_first Judged (fields_refusal f) (first_of for_room for_judging) (Ok j) (no_refusal Nothing (fields_refusal f) tt fields)
                (passes_first Judged for_room for_judging (Ok j) (no_refusal Nothing for_room tt free) a);
            change = stands;
            same_room = keeps;
          }

-- an item of fields in range is of a class
pub item_classed : (f : ItemFields) (j : Judgement) → in_range f ≡ true → of_a_class (item_of f j) ≡ true
item_classed f j h =
    let fit = fitting f h in
    and_from (leb 1 (nat_abs f.class)) (leb (nat_abs f.class) 9) (le-leb 1 (nat_abs f.class) fit.class_some) (le-leb (nat_abs f.class) 9 fit.class_few)

-- fields that pass their check are in range
pub passed_fields : (f : ItemFields) → AnswersBy (fields_refusal f) (Ok tt) Nothing → in_range f ≡ true
passed_fields f a = in_range_fields f (no_refusal Nothing (fields_refusal f) tt a)
