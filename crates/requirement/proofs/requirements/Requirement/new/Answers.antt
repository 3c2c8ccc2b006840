use Rattle.std.proofs.Common.{◌≡◌, true, Some, Ok, ap, ◌∙◌, arith, w64, to_z, of_z, rules}
use Rattle.std.proofs.lemmas.Int.{ints}
use Rattle.std.proofs.lemmas.Result.{err_from_is_err_and}
use Rattle.faults.proofs.Checks.{its_value, refused_alike, answered_alike, refuses_first, goes_on}
use Rattle.requirement.specs.Limits.{tolerance_refusal}
use Rattle.requirement.specs.Rules.{rule_of, mode_of}
use Rattle.requirement.specs.Requirements.{together}
use Rattle.requirement.specs.Making.{Placed, place_refusal, mode_refusal, suit_refusal, HoldsRow}
use Rattle.faults.specs.Faults.{AnswersBy}
use Rattle.requirement.specs.declared.rules.Rule.{Rule}
use Rattle.requirement.specs.declared.rules.Mode.{Mode}
use Rattle.requirement.specs.declared.rows.RequirementRow.{RequirementRow}
use Rattle.requirement.specs.declared.tolerance.Tolerance.{Tolerance}
use Rattle.requirement.proofs.requirements.Requirement.new.Goals as goal

-- what a part was promised to be, once it was made
module _ (w : RequirementRow) where
  limits_of : (t : Tolerance) → AnswersBy (tolerance_refusal w.lower w.upper) (Ok t) (λ t. (t.lower ≡ w.lower) × (t.upper ≡ w.upper)) → (t.lower ≡ w.lower) × (t.upper ≡ w.upper)
  limits_of t a = its_value (λ t. (t.lower ≡ w.lower) × (t.upper ≡ w.upper)) (tolerance_refusal w.lower w.upper) t a

  mode_is : (m : Mode) → AnswersBy (mode_refusal w) (Ok m) (λ m. Some m ≡ mode_of w.mode) → Some m ≡ mode_of w.mode
  mode_is m a = its_value (λ m. Some m ≡ mode_of w.mode) (mode_refusal w) m a

  abbrev Suited : Mode → Rule → Type 0
  Suited m x = (Some x ≡ rule_of w.letter w.first w.second) × (together x w.lower w.upper m ≡ true)

  rule_is : (m : Mode) (x : Rule) → AnswersBy (suit_refusal w) (Ok x) (Suited m) → Suited m x
  rule_is m x a = its_value (Suited m) (suit_refusal w) x a

pub returns-in_err-check_place : goal.returns-in_err-check_place
returns-in_err-check_place c = search (rules, refuses_first, err_from_is_err_and)

pub returns-in_err-check_rule : goal.returns-in_err-check_rule
returns-in_err-check_rule c = search (rules, refuses_first, goes_on, err_from_is_err_and)

pub returns-in_err-mode : goal.returns-in_err-mode
returns-in_err-mode c =
    let same : to_z w64 (of_z w64 c.args.row.now.mode) ≡ c.args.row.now.mode = omega (arith, ints) in
    let mode = rw same at c.in_err-mode.ensures in
    search (rules, refuses_first, goes_on, err_from_is_err_and)

pub returns-in_err-tolerance : goal.returns-in_err-tolerance
returns-in_err-tolerance c =
    let same : to_z w64 (of_z w64 c.args.row.now.mode) ≡ c.args.row.now.mode = omega (arith, ints) in
    let mode = rw same at c.in_ok-mode.ensures in
    search (rules, refuses_first, goes_on, err_from_is_err_and)

pub suited_rule-requires : goal.suited_rule-requires
suited_rule-requires c =
    let same : to_z w64 (of_z w64 c.args.row.now.mode) ≡ c.args.row.now.mode = omega (arith, ints) in
    let mode = rw same at c.in_ok-mode.ensures in
    let limits = limits_of c.args.row.now c.in_ok-tolerance.tolerance c.in_ok-tolerance.ensures in
    (limits.0, (limits.1, mode_is c.args.row.now c.in_ok-mode.mode mode))

pub returns-in_err-rule : goal.returns-in_err-rule
returns-in_err-rule c =
    let same : to_z w64 (of_z w64 c.args.row.now.mode) ≡ c.args.row.now.mode = omega (arith, ints) in
    let mode = rw same at c.in_ok-mode.ensures in
    search (rules, refused_alike, goes_on, err_from_is_err_and)

pub assembled-requires : goal.assembled-requires
assembled-requires c =
    let w = c.args.row.now in
    let limits = limits_of c.args.row.now c.in_ok-tolerance.tolerance c.in_ok-tolerance.ensures in
    (its_value (λ _. Placed w) (place_refusal w) tt c.in_ok-check_place.ensures, simp (limits.0, limits.1) (rule_is c.args.row.now c.in_ok-mode.mode c.in_ok-rule.rule c.in_ok-rule.ensures).1)

pub returns : goal.returns
returns c =
    let same : to_z w64 (of_z w64 c.args.row.now.mode) ≡ c.args.row.now.mode = omega (arith, ints) in
    let mode = rw same at c.in_ok-mode.ensures in
    let limits = limits_of c.args.row.now c.in_ok-tolerance.tolerance c.in_ok-tolerance.ensures in
    let e = c.assembled.ensures in
    let holds : HoldsRow c.args.row.now c.assembled.result =
    record {
      class_is = e.0;
      characteristic_is = e.1;
      lower_is = ap (λ t. t.lower) e.2 ∙ limits.0;
      upper_is = ap (λ t. t.upper) e.2 ∙ limits.1;
      rule_is = ap Some e.3 ∙ (rule_is c.args.row.now c.in_ok-mode.mode c.in_ok-rule.rule c.in_ok-rule.ensures).0;
      mode_is = ap Some e.4 ∙ mode_is c.args.row.now c.in_ok-mode.mode mode;
    }
    in
    search (rules, answered_alike, goes_on)
