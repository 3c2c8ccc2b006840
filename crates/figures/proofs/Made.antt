-- What is computed of a requirement, computed of the record that it was made of.
use Rattle.std.proofs.Common.{◌≡◌, ℕ, true, ℤ, pos, Some, None, Option, sym, refl, subst}
use Rattle.faults.specs.declared.Refusal.{Refusal}
use Rattle.faults.specs.Faults.{first_of}
use Rattle.knowledge.specs.Knowledge.{Answers}
use Rattle.requirement.specs.Rules.{rule_of, mode_of}
use Rattle.requirement.specs.Making.{HoldsRow, requirement_refusal}
use Rattle.requirement.specs.declared.rows.RequirementRow.{RequirementRow}
use Rattle.requirement.specs.declared.rules.Rule.{Rule}
use Rattle.requirement.specs.declared.rules.Mode.{Mode}
use Rattle.requirement.specs.declared.requirements.Requirement.{Requirement}
use Rattle.acceptance.specs.Guard.{width_of, width_refusal}
use Rattle.acceptance.specs.Acceptance.{by_rule, in_order, acceptance_refusal}
use Rattle.acceptance.specs.declared.bounds.Acceptance.{Acceptance}
use Rattle.judging.specs.Brackets.{reading_refusal, floor_between, ceiling_between}
use Rattle.judging.specs.Verdicts.{verdict_by}
use Rattle.judging.specs.declared.answers.Verdict.{Verdict}
use Rattle.judging.specs.declared.answers.Bracket.{Bracket}
use Rattle.figures.specs.Figures.{Holds, bracket_on, accepting, refusing, verdict_on}

-- no refusal, and this verdict
abbrev pub Judges : ℤ → ℤ → Verdict → Rule → Option ℤ → Option ℤ → Mode → Type 0
Judges U y v r l u m =
    (k : Answers) → (first_of (reading_refusal y) (first_of (width_refusal U) (acceptance_refusal (by_rule r l u U k))) ≡ None)
    × (verdict_by (by_rule r l u U k) m l u (width_of r U) y ≡ v)

-- a record that makes a requirement with the rule r and the mode m
module _ (w : RequirementRow) (r : Rule) (m : Mode) (made : requirement_refusal w ≡ None) (rule : rule_of w.letter w.first w.second ≡ Some r) (mode : mode_of w.mode ≡ Some m) where
  -- what holds of its parts holds of the requirement's
  pub by_parts : (P : Rule → Option ℤ → Option ℤ → Mode → Type 0) → P r w.lower w.upper m
      → (q : Requirement) → HoldsRow w q → P q.rule q.tolerance.lower q.tolerance.upper q.mode
  by_parts P p q h =
      let same-rule : r ≡ q.rule = cc h.rule_is in
      let same-mode : m ≡ q.mode = cc h.mode_is in
      subst (λ x. P x q.tolerance.lower q.tolerance.upper q.mode) same-rule
      (subst (λ x. P r x q.tolerance.upper q.mode) (sym h.lower_is)
      (subst (λ x. P r w.lower x q.mode) (sym h.upper_is) (subst (λ x. P r w.lower w.upper x) same-mode p)))

  pub bracket_holds : (k : Answers) (y : ℤ) (low high : ℕ) → floor_between k w.lower w.upper y ≡ low → ceiling_between k w.lower w.upper y ≡ high
      → Holds (bracket_on k w y low high)
  bracket_holds k y low high e f =
      let P : Rule → Option ℤ → Option ℤ → Mode → Type 0 =
      λ r l u m. ◌≡◌ {A = Bracket} (record { floor = floor_between k l u y; ceiling = ceiling_between k l u y }) (record { floor = low; ceiling = high }) in
      (made, by_parts P (rw (e, f) refl))

  pub limits_hold : (k : Answers) (low high : Option ℤ) → by_rule r w.lower w.upper (pos 0) k ≡ Some (record { lower = low; upper = high }) → in_order low high ≡ true
      → Holds (accepting k w low high)
  limits_hold k low high e o =
      let a : Acceptance = record { lower = low; upper = high } in
      let P : Option Acceptance → Type 0 = λ b. (acceptance_refusal b ≡ None) × (b ≡ Some a) in
      (made, by_parts (λ r l u m. P (by_rule r l u (pos 0) k)) (subst P (sym e) (rw o refl, refl)))

  pub refusal_holds : (k : Answers) (b : Option Acceptance) (e : Refusal) → by_rule r w.lower w.upper (pos 0) k ≡ b → acceptance_refusal b ≡ Some e
      → Holds (refusing k w e)
  refusal_holds k b e is refused =
      (made, by_parts (λ r l u m. acceptance_refusal (by_rule r l u (pos 0) k) ≡ Some e) (subst (λ x. acceptance_refusal x ≡ Some e) (sym is) refused))

  pub verdict_holds : (U y : ℤ) (v : Verdict) → Judges U y v r w.lower w.upper m → Holds (verdict_on w U y v)
  verdict_holds U y v p = (made, by_parts (Judges U y v) p)
