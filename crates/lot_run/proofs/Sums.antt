-- The rows of the two grades, and what their sums guarantee in plain numbers.
use Rattle.std.proofs.Common.{◌≡◌, ℕ, ◌+◌, ◌-◌, ◌*◌, ◌≤◌, true, cond, ◌&&◌, List, [], ◌∷◌, map, ℤ, pos, ◌-ℤ◌, Some, None, Option, sym, refl, ap, ◌∙◌, subst, arith}
use Rattle.knowledge.specs.Millionths.{million}
use Rattle.knowledge.specs.Knowledge.{Rules}
use Rattle.knowledge.specs.Distributions.{Distribution, Admitted}
use Rattle.rectangular.specs.Rectangular.{rectangular}
use Rattle.requirement.specs.Making.{HoldsRow}
use Rattle.requirement.specs.declared.requirements.Requirement.{Requirement}
use Rattle.judging.specs.Guarantee.{parts_between}
use Rattle.judging.specs.declared.answers.Judgement.{Judgement}
use Rattle.lot.specs.Notes.{Note, item_of, stored, is_pass, passing}
use Rattle.lot.specs.Risks.{Choice, at_risk, all_parts, all_risk, SumsHold}
use Rattle.lot.specs.Rows.{row_of}
use Rattle.lot.specs.declared.items.Item.{Item}
use Rattle.lot.specs.declared.items.Row.{Row}
use Rattle.figures.specs.Grades.{grade_row}
use Rattle.lot_run.specs.Grades.{grade, grade_note}
use Rattle.lot_run.specs.Worked.{passed_at, passes_alone, above, Bounds}
use Rattle.lot_run.proofs.Judging.{of_row, first_judged, second_judged}

-- the same risk over the same parts
bounds : (row : Row) (risk risk' parts parts' : ℕ) → risk ≡ risk' → parts ≡ parts' → row.lesser * parts ≤ million * risk → million * risk ≤ row.greater * parts → Bounds row risk' parts'
bounds row risk risk' parts parts' e f over under =
    record {
      over_lesser = subst (λ (p : ℕ). row.lesser * p ≤ million * risk') f (subst (λ (x : ℕ). row.lesser * parts ≤ million * x) e over);
      under_greater = subst (λ (p : ℕ). million * risk' ≤ row.greater * p) f (subst (λ (x : ℕ). million * x ≤ row.greater * parts) e under);
    }

once : (p : ℕ) → p * 1 ≡ p
once p = omega arith

last : (a a' p : ℕ) → a ≡ a' → a * 1 + p * 0 ≡ a'
last a a' p e = omega (arith, e)

joined : (a a' p b b' q : ℕ) → a ≡ a' → b ≡ b' → a * (q * 1) + p * (b * 1 + q * 0) ≡ a' * q + p * b'
joined a a' p b b' q e f =
    ap (λ (x : ℕ). x * (q * 1) + p * (b * 1 + q * 0)) e ∙ ap (λ (x : ℕ). a' * x + p * (b * 1 + q * 0)) (once q) ∙ ap (λ (x : ℕ). a' * q + p * x) (last b b' q f)

-- an item out of an option
abbrev out_of : Item → Option Item → Item
out_of d (Some e) = e
out_of d None = d

module _ (q : Requirement) (h : HoldsRow grade_row q) where
  -- the parts at risk of a reading are those above what is left to the limit
  risk_is : (n y : ℤ) (rules : Rules (rectangular 100)) (d : Distribution) → at_risk (grade_note q rules n y) d ≡ above d (pos 1000 -ℤ y)
  risk_is n y rules d = ap (λ (x : ℕ). d.parts - x) (of_row q h (λ r l u m. parts_between d l u y ≡ d.at_most (pos 1000 -ℤ y)) refl)

  module _ (rules : Rules (rectangular 100)) where
    abbrev pub note_7 : Note
    note_7 = grade_note q rules (pos 7) (pos 910)

    abbrev pub note_8 : Note
    note_8 = grade_note q rules (pos 8) (pos 905)

    stored_7 : stored note_7 ≡ item_of (grade (pos 7) (pos 910)) (passed_at 950000)
    stored_7 = ap (item_of (grade (pos 7) (pos 910))) (first_judged q h).1

    stored_8 : stored note_8 ≡ item_of (grade (pos 8) (pos 905)) (passed_at 975000)
    stored_8 = ap (item_of (grade (pos 8) (pos 905))) (second_judged q h).1

    pub shown_8 : (e : Item) → Some (stored note_8) ≡ Some e → e ≡ item_of (grade (pos 8) (pos 905)) (passed_at 975000)
    shown_8 e a = sym (ap (out_of e) a) ∙ stored_8

    -- one pass
    pub row_of_one : row_of 1 (map stored (note_8 ∷ [])) ≡ passes_alone 1 25000
    row_of_one = ap (λ (e : Item). row_of 1 (e ∷ [])) stored_8

    pub passing_one : passing 1 (note_8 ∷ []) ≡ note_8 ∷ []
    passing_one = ap (λ (j : Judgement). cond (true && is_pass j.verdict) (note_8 ∷ []) []) (second_judged q h).1

    pub one_bounded : (row : Row) → SumsHold (note_8 ∷ []) row.lesser row.greater → (e : Distribution) → Admitted (rectangular 100) e → Bounds row (above e (pos 95)) e.parts
    one_bounded row sums e admitted =
        let c : Choice (note_8 ∷ []) = ((e, admitted), tt) in
        bounds row (all_risk (note_8 ∷ []) c) (above e (pos 95)) (all_parts (note_8 ∷ []) c) e.parts (last (at_risk note_8 e) (above e (pos 95)) e.parts (risk_is (pos 8) (pos 905) rules e)) (once e.parts)
        (sums.over_lesser c) (sums.under_greater c)

  -- both
  module _ (rules_7 rules_8 : Rules (rectangular 100)) where
    abbrev pub both : List Note
    both = note_7 rules_7 ∷ note_8 rules_8 ∷ []

    pub row_of_two : row_of 1 (map stored both) ≡ passes_alone 2 75000
    row_of_two =
        ap (λ (e : Item). row_of 1 (e ∷ stored (note_8 rules_8) ∷ [])) (stored_7 rules_7)
        ∙ ap (λ (e : Item). row_of 1 (item_of (grade (pos 7) (pos 910)) (passed_at 950000) ∷ e ∷ [])) (stored_8 rules_8)

    pub passing_two : passing 1 both ≡ both
    passing_two =
        ap (λ (j : Judgement). cond (true && is_pass j.verdict) (note_7 rules_7 ∷ passing 1 (note_8 rules_8 ∷ [])) (passing 1 (note_8 rules_8 ∷ []))) (first_judged q h).1
        ∙ ap (λ (ms : List Note). note_7 rules_7 ∷ ms) (passing_one rules_8)

    pub two_bounded : (row : Row) → SumsHold both row.lesser row.greater → (d e : Distribution) → Admitted (rectangular 100) d → Admitted (rectangular 100) e
        → Bounds row (above d (pos 90) * e.parts + d.parts * above e (pos 95)) (d.parts * e.parts)
    two_bounded row sums d e for-d for-e =
        let c : Choice both = ((d, for-d), ((e, for-e), tt)) in
        bounds row (all_risk both c) (above d (pos 90) * e.parts + d.parts * above e (pos 95)) (all_parts both c) (d.parts * e.parts)
        (joined (at_risk (note_7 rules_7) d) (above d (pos 90)) d.parts (at_risk (note_8 rules_8) e) (above e (pos 95)) e.parts (risk_is (pos 7) (pos 910) rules_7 d) (risk_is (pos 8) (pos 905) rules_8 e))
        (ap (λ (x : ℕ). d.parts * x) (once e.parts)) (sums.over_lesser c) (sums.under_greater c)
