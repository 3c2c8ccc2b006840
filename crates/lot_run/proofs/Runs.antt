-- The calls one after another: each answers as the book after the earlier ones says.
use Rattle.std.proofs.Common.{◌≡◌, ℕ, ◌≤◌, List, [], ◌∷◌, length, pos, Some, None, Ok, Err, Result, refl, ap, ◌∙◌, subst, arith}
use Rattle.std.specs.List.{insert}
use Rattle.std.specs.Result.{result_err}
use Rattle.faults.specs.declared.Fault.{Fault}
use Rattle.faults.specs.declared.Refusal.{Refusal}
use Rattle.faults.specs.declared.Refusal.TheVariants.{DuplicateItem}
use Rattle.faults.specs.Faults.{direct, AnswersBy}
use Rattle.knowledge.specs.Knowledge.{Rules}
use Rattle.rectangular.specs.Rectangular.{rectangular}
use Rattle.requirement.specs.Making.{HoldsRow}
use Rattle.requirement.specs.declared.requirements.Requirement.{Requirement}
use Rattle.judging.specs.Guarantee.{JudgementHolds}
use Rattle.judging.specs.declared.answers.Judgement.{Judgement}
use Rattle.lot.specs.Notes.{Note, item_of, stored}
use Rattle.lot.specs.Risks.{SumsHold}
use Rattle.lot.specs.declared.items.Item.{Item}
use Rattle.lot.specs.declared.items.ItemFields.{ItemFields}
use Rattle.lot.specs.declared.items.Row.{Row}
use Rattle.lot_calls.specs.Guarantee.{StandsAfter, EntersOn, StrikesOn, ShowsOn, TalliesOn}
use Rattle.lot_calls.specs.declared.lots.Lot.{Lot}
use Rattle.figures.specs.Grades.{grade_row}
use Rattle.lot_run.specs.Grades.{GradeSheet, grade}
use Rattle.lot_run.specs.Worked.{passed_at, passes_alone}
use Rattle.lot_run.proofs.Judging.{first_judged, second_judged}
use Rattle.lot_run.proofs.Steps.{Kept, at_first, said, entering, entering_refused, striking, showing, tallying, RowFor}
use Rattle.lot_run.proofs.Sums.{note_7, note_8, both, shown_8, row_of_one, passing_one, row_of_two, passing_two}

-- the first requirement of a sheet stands alone
pub added_first : (xs ys : List Requirement) (i : ℕ) (q : Requirement) → xs ≡ [] → i ≤ length xs → ys ≡ insert xs i q → ys ≡ q ∷ []
added_first xs ys i q none within are =
    let first : i ≡ 0 = omega (arith, ap length none, within) in
    are ∙ ap (λ (zs : List Requirement). insert zs i q) none ∙ ap (λ (j : ℕ). insert [] j q) first

-- the error of a call that refuses
refused_with : {T : Type 0} (P : T → Type 0) (e : Refusal) (r : Result T Fault) → AnswersBy (Some e) r P → result_err r ≡ Some (direct e)
refused_with P e (Ok x) a = absurd a
refused_with P e (Err f) a = ap Some a

-- a sheet with the requirement, and the half-width 100
module _ (sheet : List Requirement) (required : GradeSheet sheet) (s : ℕ) (known : s ≡ 100) where
  abbrev pub q : Requirement
  q = required.0

  abbrev pub h : HoldsRow grade_row q
  h = required.1

  enters_at : (l : Lot) (f f' : ItemFields) (r : Result Judgement Fault) (l' : Lot) → f ≡ f' → EntersOn l sheet f (rectangular s) r l' → EntersOn l (q ∷ []) f' (rectangular 100) r l'
  enters_at l f f' r l' same on =
      subst (λ (t : ℕ). EntersOn l (q ∷ []) f' (rectangular t) r l') known
      (subst (λ (g : ItemFields). EntersOn l (q ∷ []) g (rectangular s) r l') same (subst (λ (qs : List Requirement). EntersOn l qs f (rectangular s) r l') required.2 on))

  -- 7 alone stands, and 7 and 8
  pub record FirstStands (l : Lot) : Type 0 where
    pub rules_7 : Rules (rectangular 100)
    pub kept : Kept l (note_7 q h rules_7 ∷ [])

  pub record BothStand (l : Lot) : Type 0 where
    pub rules_7 : Rules (rectangular 100)
    pub rules_8 : Rules (rectangular 100)
    pub kept : Kept l (both q h rules_7 rules_8)

  pub enter_7 : (l : Lot) → StandsAfter l 2 [] → (f : ItemFields) (r : Result Judgement Fault) (l' : Lot) → f ≡ grade (pos 7) (pos 910) → EntersOn l sheet f (rectangular s) r l'
      → AnswersBy None r (λ x. (x ≡ passed_at 950000) × JudgementHolds (rectangular 100) q (pos 910) x) × FirstStands l'
  enter_7 l made f r l' same on =
      let at = enters_at l f (grade (pos 7) (pos 910)) r l' same on in
      let step = entering l [] (at_first l made) q h (pos 7) (pos 910) r l' at refl refl (passed_at 950000) (first_judged q h) in
      (step.0, record { rules_7 = at.0; kept = step.1 })

  pub enter_8 : (l : Lot) → FirstStands l → (f : ItemFields) (r : Result Judgement Fault) (l' : Lot) → f ≡ grade (pos 8) (pos 905) → EntersOn l sheet f (rectangular s) r l'
      → AnswersBy None r (λ x. (x ≡ passed_at 975000) × JudgementHolds (rectangular 100) q (pos 905) x) × BothStand l'
  enter_8 l stands f r l' same on =
      let at = enters_at l f (grade (pos 8) (pos 905)) r l' same on in
      let step = entering l (note_7 q h stands.rules_7 ∷ []) stands.kept q h (pos 8) (pos 905) r l' at refl refl (passed_at 975000) (second_judged q h) in
      (step.0, record { rules_7 = stands.rules_7; rules_8 = at.0; kept = step.1 })

  pub enter_7_again : (l : Lot) → BothStand l → (f : ItemFields) (r : Result Judgement Fault) (l' : Lot) → f ≡ grade (pos 7) (pos 910) → EntersOn l sheet f (rectangular s) r l'
      → (result_err r ≡ Some (direct DuplicateItem)) × BothStand l'
  enter_7_again l stand f r l' same on =
      let at = enters_at l f (grade (pos 7) (pos 910)) r l' same on in
      let step = entering_refused l (both q h stand.rules_7 stand.rules_8) stand.kept q h (pos 7) (pos 910) r l' at DuplicateItem refl in
      (refused_with _ DuplicateItem r step.0, record { rules_7 = stand.rules_7; rules_8 = stand.rules_8; kept = step.1 })

  -- what is known of a row: its numbers, and that its sums hold for these notes
  pub record Tells (notes : List Note) (numbers row : Row) : Type 0 where
    pub row_is : row ≡ numbers
    pub sums : SumsHold notes row.lesser row.greater

  module _ (l : Lot) (stand : BothStand l) where
    pub tally_both : (r : Result Row Fault) → TalliesOn l (pos 1) r → AnswersBy None r (Tells (both q h stand.rules_7 stand.rules_8) (passes_alone 2 75000))
    tally_both r on =
        let notes = both q h stand.rules_7 stand.rules_8 in
        said (RowFor l notes stand.kept notes) (Tells notes (passes_alone 2 75000)) None r refl
        (λ row a. record {
          row_is = a.0 ∙ row_of_two q h stand.rules_7 stand.rules_8;
          sums = subst (λ (ms : List Note). SumsHold ms row.lesser row.greater) (passing_two q h stand.rules_7 stand.rules_8) a.1;
        })
        (tallying l notes stand.kept r on)

    pub strike_7 : (r : Result (Unit {0}) Fault) (l' : Lot) → StrikesOn l (pos 7) r l' → AnswersBy None r (λ x. Unit {0}) × Kept l' (note_8 q h stand.rules_8 ∷ [])
    strike_7 r l' on = striking l (both q h stand.rules_7 stand.rules_8) stand.kept (pos 7) r l' on refl

  -- 8 alone stands
  module _ (l : Lot) (rules_8 : Rules (rectangular 100)) (kept : Kept l (note_8 q h rules_8 ∷ [])) where
    pub show_8 : (r : Result Item Fault) → ShowsOn l 0 r → AnswersBy None r (λ e. e ≡ item_of (grade (pos 8) (pos 905)) (passed_at 975000))
    show_8 r on =
        said (λ e. Some (stored (note_8 q h rules_8)) ≡ Some e) (λ e. e ≡ item_of (grade (pos 8) (pos 905)) (passed_at 975000)) None r refl (shown_8 q h rules_8) (showing l (note_8 q h rules_8 ∷ []) kept 0 r on refl)

    pub tally_8 : (r : Result Row Fault) → TalliesOn l (pos 1) r → AnswersBy None r (Tells (note_8 q h rules_8 ∷ []) (passes_alone 1 25000))
    tally_8 r on =
        let notes = note_8 q h rules_8 ∷ [] in
        said (RowFor l notes kept notes) (Tells notes (passes_alone 1 25000)) None r refl
        (λ row a. record {
          row_is = a.0 ∙ row_of_one q h rules_8;
          sums = subst (λ (ms : List Note). SumsHold ms row.lesser row.greater) (passing_one q h rules_8) a.1;
        })
        (tallying l notes kept r on)
