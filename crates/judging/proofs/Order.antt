-- What each way out of judging answers.
use Rattle.std.proofs.Common.{◌≡◌, true, ℤ, is_some, Some, None, Ok, Err, Option, Result, sym, refl, ap, ◌∙◌, subst}
use Rattle.std.proofs.lemmas.Bool.{true≢false}
use Rattle.faults.specs.declared.Refusal.TheVariants.{OutOfRange, NoOffset, NothingAcceptable}
use Rattle.faults.specs.declared.Fault.{Fault}
use Rattle.faults.specs.Faults.{check, AnswersBy}
use Rattle.faults.proofs.Checks.{check_passed, first_none, later_none, no_refusal, its_value, refused_alike, answered_alike, refuses_first, passes_first}
use Rattle.knowledge.specs.Knowledge.{Answers, Rules}
use Rattle.requirement.specs.Limits.{in_reach}
use Rattle.requirement.specs.declared.rules.Rule.{Rule}
use Rattle.requirement.specs.declared.rules.Rule.TheVariants.{Simple, Guard, Multiple, Shares}
use Rattle.requirement.specs.declared.requirements.Requirement.{Requirement}
use Rattle.acceptance.specs.declared.bounds.Acceptance.{Acceptance}
use Rattle.acceptance.specs.Guard.{width_of, width_refusal}
use Rattle.acceptance.specs.Acceptance.{by_rule, acceptance, uncrossed, acceptance_refusal, limits_refusal}
use Rattle.judging.specs.declared.answers.Bracket.{Bracket}
use Rattle.judging.specs.declared.answers.Verdict.{Verdict}
use Rattle.judging.specs.declared.answers.Judgement.{Judgement}
use Rattle.judging.specs.Brackets.{reading_refusal, bracketed}
use Rattle.judging.specs.Verdicts.{verdict_by, verdict_of, judged, judge_refusal}
use Rattle.judging.specs.Guarantee.{BracketHolds, VerdictHolds, JudgementHolds}
use Rattle.judging.proofs.SharesDecide.{shares_decide}
use Rattle.judging.proofs.BracketHolds.{bracket_holds}

some_from : {T : Type 0} (o : Option T) → is_some o ≡ true → (x : T) × (o ≡ Some x)
some_from None h = absurd (true≢false (sym h))
some_from (Some x) h = (x, refl)

module _ (k : Answers) (r : Rules k) (q : Requirement) (expanded y : ℤ) where
  abbrev pub Judged : Judgement → Type 0
  Judged j = (j ≡ judged q expanded y k) × JudgementHolds k q y j

  abbrev pub Answer : Result Judgement Fault → Type 0
  Answer x = AnswersBy (judge_refusal q expanded y k) x Judged

  abbrev pub Bracketed : Bracket → Type 0
  Bracketed b = (b ≡ bracketed k q.tolerance y) × BracketHolds k q.tolerance y b

  abbrev pub Accepted : Acceptance → Type 0
  Accepted a = Some a ≡ acceptance q expanded k

  -- the verdict's guarantee, by the rule
  verdict_holds : (rule : Rule) (a : Acceptance) (v : Verdict) → in_reach y ≡ true → by_rule rule q.tolerance.lower q.tolerance.upper expanded k ≡ Some a
      → v ≡ verdict_by (Some a) q.mode q.tolerance.lower q.tolerance.upper (width_of q.rule expanded) y → VerdictHolds rule k q.tolerance y v
  verdict_holds Simple a v hy is e = tt
  verdict_holds (Guard w) a v hy is e = tt
  verdict_holds (Multiple m) a v hy is e = tt
  verdict_holds (Shares lower upper) a v hy is e =
      subst (VerdictHolds (Shares lower upper) k q.tolerance y) (sym e)
      (shares_decide k r q lower upper y hy a is q.mode q.tolerance.lower q.tolerance.upper (width_of q.rule expanded))

  module _ (b : Bracket) (bracket : AnswersBy (reading_refusal y) (Ok b) Bracketed) where
    reading_passed : reading_refusal y ≡ None
    reading_passed = no_refusal Bracketed (reading_refusal y) b bracket

    pub reach : in_reach y ≡ true
    reach = check_passed (in_reach y) OutOfRange None reading_passed

    after_bracket : (x : Result Judgement Fault) → AnswersBy (limits_refusal q expanded k) x Judged → Answer x
    after_bracket x a = passes_first Judged (reading_refusal y) (limits_refusal q expanded k) x reading_passed a

    -- a width that is refused refuses the judgement alike
    pub by_width : {T : Type 0} (P : T → Type 0) (f : Fault) → AnswersBy (width_refusal expanded) (Err f) P → Answer (Err f)
    by_width P f a = after_bracket (Err f) (refuses_first P Judged (width_refusal expanded) (acceptance_refusal (acceptance q expanded k)) f a)

    pub by_limits : (f : Fault) → AnswersBy (limits_refusal q expanded k) (Err f) Accepted → Answer (Err f)
    by_limits f a = after_bracket (Err f) (refused_alike Accepted Judged (limits_refusal q expanded k) f a)

    pub answered : (a : Acceptance) → AnswersBy (limits_refusal q expanded k) (Ok a) Accepted → (w : ℤ) → w ≡ width_of q.rule expanded → (v : Verdict)
        → v ≡ verdict_by (Some a) q.mode q.tolerance.lower q.tolerance.upper w y → Answer (Ok (record { verdict = v; bracket = b }))
    answered a limits w width v e =
        let is = its_value Accepted (limits_refusal q expanded k) a limits in
        let known = its_value Bracketed (reading_refusal y) b bracket in
        let by-width-of = e ∙ ap (λ x. verdict_by (Some a) q.mode q.tolerance.lower q.tolerance.upper x y) width in
        let by_requirement : v ≡ verdict_of q expanded y k =
        by-width-of ∙ ap (λ x. verdict_by x q.mode q.tolerance.lower q.tolerance.upper (width_of q.rule expanded) y) is
        in
        let whole : ◌≡◌ {A = Judgement} (record { verdict = v; bracket = b }) (judged q expanded y k) = cc (by_requirement, known.0) in
        after_bracket (Ok (record { verdict = v; bracket = b }))
        (answered_alike Accepted Judged (limits_refusal q expanded k) a (record { verdict = v; bracket = b }) limits
        (whole, record { bracket_holds = known.1; verdict_holds = verdict_holds q.rule a v reach (sym is) by-width-of }))

  -- the same of a judgement by the rules alone, where judging is not refused
  reach_of : judge_refusal q expanded y k ≡ None → in_reach y ≡ true
  reach_of h = check_passed (in_reach y) OutOfRange None (first_none (reading_refusal y) (limits_refusal q expanded k) h)

  pub judged_bracket : judge_refusal q expanded y k ≡ None → BracketHolds k q.tolerance y (judged q expanded y k).bracket
  judged_bracket h = bracket_holds k r q.tolerance y (reach_of h)

  pub judged_holds : judge_refusal q expanded y k ≡ None → JudgementHolds k q y (judged q expanded y k)
  judged_holds h =
      let limits = later_none (reading_refusal y) (limits_refusal q expanded k) h in
      let found = some_from (acceptance q expanded k) (check_passed (is_some (acceptance q expanded k)) NoOffset (check (uncrossed (acceptance q expanded k)) NothingAcceptable None)
      (later_none (width_refusal expanded) (acceptance_refusal (acceptance q expanded k)) limits)) in
      record {
        bracket_holds = judged_bracket h;
        verdict_holds = verdict_holds q.rule found.0 (verdict_of q expanded y k) (reach_of h) found.1
            (ap (λ x. verdict_by x q.mode q.tolerance.lower q.tolerance.upper (width_of q.rule expanded) y) found.1);
      }
