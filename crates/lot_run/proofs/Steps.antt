-- One call on a lot whose book is known: what it answers, and the book after it.
use Rattle.std.proofs.Common.{◌≡◌, ℕ, List, [], ◌∷◌, map, length, ℤ, pos, nat_abs, Some, None, Ok, Err, Option, Result, refl, ap, ◌∙◌, subst}
use Rattle.std.specs.List.{slice_get}
use Rattle.std.specs.Option.{option_map}
use Rattle.faults.specs.declared.Fault.{Fault}
use Rattle.faults.specs.declared.Refusal.{Refusal}
use Rattle.faults.specs.Faults.{AnswersBy, first_of}
use Rattle.rectangular.specs.Rectangular.{rectangular}
use Rattle.requirement.specs.Making.{HoldsRow}
use Rattle.requirement.specs.declared.requirements.Requirement.{Requirement}
use Rattle.judging.specs.Verdicts.{judge_refusal, judged}
use Rattle.judging.specs.Guarantee.{JudgementHolds}
use Rattle.judging.specs.declared.answers.Judgement.{Judgement}
use Rattle.lot.specs.Notes.{Note, stored, passing}
use Rattle.lot.specs.Risks.{SumsHold}
use Rattle.lot.specs.Rows.{row_of}
use Rattle.lot.specs.Book.{Call, enters, strikes, number_of, noted, struck, fields_refusal, room_refusal, judged_refusal, requirement_for, enter_refusal, strike_refusal, show_refusal, note_if, strike_if, book}
use Rattle.lot.specs.declared.items.Item.{Item}
use Rattle.lot.specs.declared.items.Row.{Row}
use Rattle.lot_calls.specs.Lots.{JudgedBy}
use Rattle.lot_calls.specs.Guarantee.{Keeps, StandsAfter, EntersOn, StrikesOn, ShowsOn, TalliesOn}
use Rattle.lot_calls.specs.declared.lots.Lot.{Lot}
use Rattle.figures.specs.Grades.{grade_row}
use Rattle.lot_run.specs.Grades.{grade, grade_note}
use Rattle.lot_run.proofs.Judging.{found}

-- after some calls, these notes are the book of two places that the lot keeps
pub record Kept (l : Lot) (ns : List Note) : Type 0 where
  pub calls : List Call
  pub book_is : book 2 calls ≡ ns
  pub keeps : Keeps l 2 (book 2 calls)

pub at_first : (l : Lot) → StandsAfter l 2 [] → Kept l []
at_first l made = record { calls = []; book_is = refl; keeps = made.keeps }

-- an answer that is not refused, with what follows of it
pub said : {T : Type 0} (P Q : T → Type 0) (o : Option Refusal) (r : Result T Fault) → o ≡ None → ((x : T) → P x → Q x) → AnswersBy o r P → AnswersBy None r Q
said P Q None (Ok x) e f a = f x a
said P Q None (Err s) e f a = a
said P Q (Some s) (Ok x) e f a = absurd a
said P Q (Some s) (Err t) e f a = subst (λ (o : Option Refusal). AnswersBy o (Err t) Q) e a

module _ (l : Lot) (ns : List Note) (kept : Kept l ns) where
  -- entering a grade
  module _ (q : Requirement) (h : HoldsRow grade_row q) (n y : ℤ) (r : Result Judgement Fault) (l' : Lot) (on : EntersOn l (q ∷ []) (grade n y) (rectangular 100) r l') where
    abbrev by_book : List Note → Option Refusal
    by_book ms = enter_refusal (map number_of ms) 2 (q ∷ []) (grade n y) (rectangular 100)

    abbrev call : Call
    call = enters (q ∷ []) (grade n y) (rectangular 100) on.0

    abbrev Judged : Judgement → Type 0
    Judged = JudgedBy (requirement_for (q ∷ []) (grade n y)) (grade n y) (rectangular 100)

    answer : AnswersBy (by_book ns) r Judged
    answer = subst (λ (ms : List Note). AnswersBy (by_book ms) r Judged) kept.book_is (on.1 2 kept.calls kept.keeps).0

    after_it : (ms : List Note) → note_if (by_book ns) (requirement_for (q ∷ []) (grade n y)) (grade n y) (rectangular 100) on.0 ns ≡ ms → Kept l' ms
    after_it ms e =
        record {
          calls = call ∷ kept.calls;
          book_is = ap (λ (xs : List Note). note_if (by_book xs) (requirement_for (q ∷ []) (grade n y)) (grade n y) (rectangular 100) on.0 xs) kept.book_is ∙ e;
          keeps = (on.1 2 kept.calls kept.keeps).1.keeps;
        }

    -- refused
    pub entering_refused : (e : Refusal) → by_book ns ≡ Some e → AnswersBy (Some e) r Judged × Kept l' ns
    entering_refused e is = (
      subst (λ (o : Option Refusal). AnswersBy o r Judged) is answer,
      after_it ns (ap (λ (o : Option Refusal). note_if o (requirement_for (q ∷ []) (grade n y)) (grade n y) (rectangular 100) on.0 ns) is),
    )

    -- or judged and noted
    module _ (fields : fields_refusal (grade n y) ≡ None) (room : room_refusal (map number_of ns) 2 n ≡ None) (j : Judgement)
        (by : (judge_refusal q (pos 0) y (rectangular 100) ≡ None) × (judged q (pos 0) y (rectangular 100) ≡ j)) where
      allowed : by_book ns ≡ None
      allowed =
          ap (λ (o : Option Refusal). first_of o (first_of (room_refusal (map number_of ns) 2 n) (judged_refusal (requirement_for (q ∷ []) (grade n y)) (grade n y) (rectangular 100)))) fields
          ∙ ap (λ (o : Option Refusal). first_of o (judged_refusal (requirement_for (q ∷ []) (grade n y)) (grade n y) (rectangular 100))) room
          ∙ ap (λ (o : Option Requirement). judged_refusal o (grade n y) (rectangular 100)) (found q h n y)
          ∙ by.0

      abbrev IsHeld : Judgement → Type 0
      IsHeld x = (x ≡ j) × JudgementHolds (rectangular 100) q y x

      judged_so : (o : Option Requirement) → o ≡ Some q → (x : Judgement) → JudgedBy o (grade n y) (rectangular 100) x → IsHeld x
      judged_so o is x a = let p = subst (λ (p : Option Requirement). JudgedBy p (grade n y) (rectangular 100) x) is a in (p.0 ∙ by.1, p.1)

      pub entering : AnswersBy None r (λ x. (x ≡ j) × JudgementHolds (rectangular 100) q y x) × Kept l' (noted (grade_note q on.0 n y) ns)
      entering = (
        said Judged IsHeld (by_book ns) r allowed (judged_so (requirement_for (q ∷ []) (grade n y)) (found q h n y)) answer,
        after_it (noted (grade_note q on.0 n y) ns)
            (ap (λ (o : Option Refusal). note_if o (requirement_for (q ∷ []) (grade n y)) (grade n y) (rectangular 100) on.0 ns) allowed
            ∙ ap (λ (o : Option Requirement). note_if None o (grade n y) (rectangular 100) on.0 ns) (found q h n y)),
      )

  -- striking a number that stands
  pub striking : (n : ℤ) (r : Result (Unit {0}) Fault) (l' : Lot) → StrikesOn l n r l' → strike_refusal (map number_of ns) n ≡ None → AnswersBy None r (λ x. Unit {0}) × Kept l' (struck (nat_abs n) ns)
  striking n r l' on e = (
    subst (λ (o : Option Refusal). AnswersBy o r (λ x. Unit {0})) e
        (subst (λ (ms : List Note). AnswersBy (strike_refusal (map number_of ms) n) r (λ x. Unit {0})) kept.book_is (on 2 kept.calls kept.keeps).0),
    record {
      calls = strikes n ∷ kept.calls;
      book_is = ap (λ (xs : List Note). strike_if (strike_refusal (map number_of xs) n) (nat_abs n) xs) kept.book_is ∙ ap (λ (o : Option Refusal). strike_if o (nat_abs n) ns) e;
      keeps = (on 2 kept.calls kept.keeps).1.keeps;
    },
  )

  -- showing a place
  pub showing : (place : ℕ) (r : Result Item Fault) → ShowsOn l place r → show_refusal (length ns) place ≡ None → AnswersBy None r (λ e. option_map stored (slice_get ns place) ≡ Some e)
  showing place r on e =
      subst (λ (o : Option Refusal). AnswersBy o r (λ x. option_map stored (slice_get ns place) ≡ Some x)) e
      (subst (λ (ms : List Note). AnswersBy (show_refusal (length ms) place) r (λ x. option_map stored (slice_get ms place) ≡ Some x)) kept.book_is (on 2 kept.calls kept.keeps).0)

  -- the row of class 1, with what its sums guarantee
  abbrev pub RowFor : List Note → Row → Type 0
  RowFor ms row = (row ≡ row_of 1 (map stored ms)) × SumsHold (passing 1 ms) row.lesser row.greater

  pub tallying : (r : Result Row Fault) → TalliesOn l (pos 1) r → AnswersBy None r (RowFor ns)
  tallying r on = subst (λ (ms : List Note). AnswersBy None r (RowFor ms)) kept.book_is (on 2 kept.calls kept.keeps).0
