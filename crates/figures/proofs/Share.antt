-- The grade under the shares rule: what judging it answers, from the contract of judging and the acceptance limit that is worked out.
use Rattle.std.proofs.Common.{◌≡◌, ℕ, ◌*◌, ◌≤◌, cond, ℤ, pos, ◌-ℤ◌, Some, None, Ok, Err, Option, Result, refl, ap, ◌∙◌, subst}
use lib.Signed.{le_z}
use Rattle.faults.specs.declared.Fault.{Fault}
use Rattle.faults.specs.declared.Refusal.{Refusal}
use Rattle.faults.specs.Faults.{AnswersBy, first_of}
use Rattle.knowledge.specs.Millionths.{million}
use Rattle.rectangular.specs.Rectangular.{rectangular}
use Rattle.requirement.specs.Making.{HoldsRow}
use Rattle.requirement.specs.declared.rules.Rule.{Rule}
use Rattle.requirement.specs.declared.rules.Rule.TheVariants.{Shares}
use Rattle.requirement.specs.declared.rules.Mode.{Mode}
use Rattle.requirement.specs.declared.rules.Mode.TheVariants.{Two}
use Rattle.requirement.specs.declared.requirements.Requirement.{Requirement}
use Rattle.acceptance.specs.Acceptance.{limits_refusal}
use Rattle.acceptance.specs.Guard.{width_of}
use Rattle.acceptance.specs.declared.search.Side.TheVariants.{Upper}
use Rattle.judging.specs.Brackets.{reading_refusal, floor_between, ceiling_between}
use Rattle.judging.specs.Verdicts.{judge_refusal, judged, verdict_of, verdict_by}
use Rattle.judging.specs.Guarantee.{JudgementHolds, VerdictHolds, beyond}
use Rattle.judging.specs.declared.answers.Judgement.{Judgement}
use Rattle.judging.specs.declared.answers.Verdict.TheVariants.{Pass, Fail}
use Rattle.figures.specs.Figures.{upper_share}
use Rattle.figures.specs.Reading.{Decided}
use Rattle.figures.proofs.Made.{by_parts}
use Rattle.figures.proofs.Hold.{accepts_to_910}

-- a later check that never refuses changes nothing
without_later : {T : Type 0} (P Q : T → Type 0) (o later : Option Refusal) (r : Result T Fault) → later ≡ None → ((x : T) → P x → Q x)
    → AnswersBy (first_of o later) r P → AnswersBy o r Q
without_later P Q None later (Ok x) e f a = f x (subst (λ l. AnswersBy l (Ok x) P) e a)
without_later P Q None later (Err s) e f a = subst (λ l. AnswersBy l (Err s) P) e a
without_later P Q (Some s) later (Ok x) e f a = a
without_later P Q (Some s) later (Err t) e f a = a

-- what judging promises of an answer, at a half-width
abbrev Judged : Requirement → ℕ → ℤ → Judgement → Type 0
Judged q s y j = (j ≡ judged q (pos 0) y (rectangular s)) × JudgementHolds (rectangular s) q y j

module _ (q : Requirement) (h : HoldsRow (upper_share (pos 50000)) q) (y : ℤ) where
  -- what is computed of the requirement, computed of its record
  of_row : (P : Rule → Option ℤ → Option ℤ → Mode → Type 0) → P (Shares 0 50000) None (Some (pos 1000)) Two → P q.rule q.tolerance.lower q.tolerance.upper q.mode
  of_row P p = by_parts (upper_share (pos 50000)) (Shares 0 50000) Two refl refl refl P p q h

  verdict_as : verdict_of q (pos 0) y (rectangular 100) ≡ cond (le_z y (pos 910)) Pass Fail
  verdict_as =
      ap (λ a. verdict_by a q.mode q.tolerance.lower q.tolerance.upper (width_of q.rule (pos 0)) y) (accepts_to_910.1 q h).1
      ∙ of_row (λ r l u m. verdict_by (Some (record { lower = None; upper = Some (pos 910) })) m l u (width_of r (pos 0)) y ≡ cond (le_z y (pos 910)) Pass Fail) refl

  decided : (j : Judgement) → Judged q 100 y j → Decided y j
  decided j a =
      let rule_is : q.rule ≡ Shares 0 50000 = cc h.rule_is in
      let kept : VerdictHolds (Shares 0 50000) (rectangular 100) q.tolerance y j.verdict =
      subst (λ x. VerdictHolds x (rectangular 100) q.tolerance y j.verdict) rule_is a.1.verdict_holds in
      record {
        verdict_is = ap (λ x. x.verdict) a.0 ∙ verdict_as;
        floor_is = ap (λ x. x.bracket.floor) a.0 ∙ of_row (λ r l u m. floor_between (rectangular 100) l u y ≡ (rectangular 100).floor (pos 1000 -ℤ y)) refl;
        ceiling_is = ap (λ x. x.bracket.ceiling) a.0 ∙ of_row (λ r l u m. ceiling_between (rectangular 100) l u y ≡ (rectangular 100).ceiling (pos 1000 -ℤ y)) refl;
        passing = λ e d admitted. subst (λ u. million * beyond d Upper u y ≤ 50000 * d.parts) h.upper_is (kept.passing e d admitted).upper_within;
      }

  pub at_half_width : (s : ℕ) → pos s ≡ pos 100 → (r : Result Judgement Fault) → AnswersBy (judge_refusal q (pos 0) y (rectangular s)) r (Judged q s y)
      → AnswersBy (reading_refusal y) r (Decided y)
  at_half_width s e r a =
      let same : s ≡ 100 = cc in
      without_later (Judged q 100 y) (Decided y) (reading_refusal y) (limits_refusal q (pos 0) (rectangular 100)) r (accepts_to_910.1 q h).0 decided
      (subst (λ t. AnswersBy (judge_refusal q (pos 0) y (rectangular t)) r (Judged q t y)) same a)
