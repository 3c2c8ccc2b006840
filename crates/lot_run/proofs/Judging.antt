-- What judging a grade gives, computed of the record that its requirement was made of.
use Rattle.std.proofs.Common.{◌≡◌, ℕ, cond, ◌&&◌, eqb, [], ◌∷◌, ℤ, pos, ◌-ℤ◌, Some, None, Option, sym, refl, ap, subst, arith, lit<, lit≤}
use Rattle.std.specs.Option.{option_map}
use Rattle.faults.specs.declared.Refusal.{Refusal}
use Rattle.faults.specs.Faults.{first_of}
use Rattle.knowledge.specs.Knowledge.{Rules}
use Rattle.rectangular.specs.Rectangular.{rectangular}
use Rattle.rectangular.specs.Rules.{rectangular_rules}
use Rattle.requirement.specs.Making.{HoldsRow}
use Rattle.requirement.specs.declared.rules.Rule.{Rule}
use Rattle.requirement.specs.declared.rules.Rule.TheVariants.{Shares}
use Rattle.requirement.specs.declared.rules.Mode.{Mode}
use Rattle.requirement.specs.declared.rules.Mode.TheVariants.{Two}
use Rattle.requirement.specs.declared.requirements.Requirement.{Requirement}
use Rattle.acceptance.specs.Search.{first_below, offset_at, keeps_share}
use Rattle.acceptance.specs.Acceptance.{by_rule, both_limits, acceptance_refusal}
use Rattle.acceptance.specs.Guard.{width_of, width_refusal}
use Rattle.acceptance.specs.declared.bounds.Acceptance.{Acceptance}
use Rattle.acceptance.specs.declared.search.Side.TheVariants.{Upper}
use Rattle.acceptance.proofs.FirstHits.{first_found, failed_before}
use Rattle.judging.specs.Brackets.{reading_refusal, floor_between, ceiling_between}
use Rattle.judging.specs.Verdicts.{judge_refusal, judged, verdict_by}
use Rattle.judging.specs.declared.answers.Judgement.{Judgement}
use Rattle.lot.specs.Book.{requirement_for}
use Rattle.figures.specs.Grades.{grade_row}
use Rattle.lot_run.specs.Grades.{grade}
use Rattle.lot_run.specs.Worked.{passed_at}

R100 : Rules (rectangular 100)
R100 = rectangular_rules 100 (lit≤ tt) (lit≤ tt)

abbrev to_910 : Option Acceptance
to_910 = Some (record { lower = None; upper = Some (pos 910) })

-- the share is first kept 90 below the limit: not yet at 89
place_90 : first_below (keeps_share (rectangular 100) Upper 50000) 4000001 ≡ Some 2000090
place_90 =
    first_found (keeps_share (rectangular 100) Upper 50000) 4000001 2000090 (lit< tt) refl
    (λ j h. failed_before (rectangular 100) R100 Upper 50000 j 2000089 (omega arith) refl)

accepts_to_910 : by_rule (Shares 0 50000) None (Some (pos 1000)) (pos 0) (rectangular 100) ≡ to_910
accepts_to_910 = ap (λ p. both_limits (Some None) (option_map (λ x. Some (pos 1000 -ℤ x)) (option_map (offset_at Upper) p))) place_90

-- the judgement, and what it is refused for, by a requirement's parts
abbrev judged_by_parts : ℤ → Option Acceptance → Rule → Option ℤ → Option ℤ → Mode → Judgement
judged_by_parts y a r l u m =
    record { verdict = verdict_by a m l u (width_of r (pos 0)) y; bracket = record { floor = floor_between (rectangular 100) l u y; ceiling = ceiling_between (rectangular 100) l u y } }

abbrev refusal_by : ℤ → Option Acceptance → Option Refusal
refusal_by y a = first_of (reading_refusal y) (first_of (width_refusal (pos 0)) (acceptance_refusal a))

module _ (q : Requirement) (h : HoldsRow grade_row q) where
  pub of_row : (P : Rule → Option ℤ → Option ℤ → Mode → Type 0) → P (Shares 0 50000) None (Some (pos 1000)) Two → P q.rule q.tolerance.lower q.tolerance.upper q.mode
  of_row P p =
      let same-rule : Shares 0 50000 ≡ q.rule = cc h.rule_is in
      let same-mode : Two ≡ q.mode = cc h.mode_is in
      subst (λ x. P x q.tolerance.lower q.tolerance.upper q.mode) same-rule
      (subst (λ x. P (Shares 0 50000) x q.tolerance.upper q.mode) (sym h.lower_is)
      (subst (λ x. P (Shares 0 50000) None x q.mode) (sym h.upper_is) (subst (λ x. P (Shares 0 50000) None (Some (pos 1000)) x) same-mode p)))

  -- the sheet has the requirement for every grade
  pub found : (n y : ℤ) → requirement_for (q ∷ []) (grade n y) ≡ Some q
  found n y =
      let class : q.class ≡ 1 = cc h.class_is in
      let characteristic : q.characteristic ≡ 1 = cc h.characteristic_is in
      subst (λ (m : ℕ). cond (eqb m 1 && eqb q.characteristic 1) (Some q) None ≡ Some q) (sym class)
      (subst (λ (m : ℕ). cond (eqb m 1) (Some q) None ≡ Some q) (sym characteristic) refl)

  module _ (y : ℤ) where
    pub not_refused : refusal_by y to_910 ≡ None → judge_refusal q (pos 0) y (rectangular 100) ≡ None
    not_refused e =
        of_row (λ r l u m. refusal_by y (by_rule r l u (pos 0) (rectangular 100)) ≡ None) (subst (λ (a : Option Acceptance). refusal_by y a ≡ None) (sym accepts_to_910) e)

    pub judged_as : (j : Judgement) → judged_by_parts y to_910 (Shares 0 50000) None (Some (pos 1000)) Two ≡ j → judged q (pos 0) y (rectangular 100) ≡ j
    judged_as j e =
        of_row (λ r l u m. judged_by_parts y (by_rule r l u (pos 0) (rectangular 100)) r l u m ≡ j)
        (subst (λ (a : Option Acceptance). judged_by_parts y a (Shares 0 50000) None (Some (pos 1000)) Two ≡ j) (sym accepts_to_910) e)

  -- 910 and 905 are judged, and pass
  pub first_judged : (judge_refusal q (pos 0) (pos 910) (rectangular 100) ≡ None) × (judged q (pos 0) (pos 910) (rectangular 100) ≡ passed_at 950000)
  first_judged = (not_refused (pos 910) refl, judged_as (pos 910) (passed_at 950000) refl)

  pub second_judged : (judge_refusal q (pos 0) (pos 905) (rectangular 100) ≡ None) × (judged q (pos 0) (pos 905) (rectangular 100) ≡ passed_at 975000)
  second_judged = (not_refused (pos 905) refl, judged_as (pos 905) (passed_at 975000) refl)
