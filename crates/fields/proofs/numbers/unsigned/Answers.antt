use Rattle.std.proofs.Common.{◌+◌, ◌*◌, ◌≤◌, length, sym, subst, arith}
use Rattle.std.proofs.lemmas.Grind.{common_steps}
use Rattle.fields.proofs.Places.{Sofar, small, one_more}
use Rattle.fields.proofs.numbers.unsigned.Goals as goal
use Rattle.fields.proofs.numbers.unsigned.Goals.{In-loop-digit}

few : (c : In-loop-digit) → length c.args.digits.now ≤ 10
few c = grind (arith, common_steps)

pub overflow_mul-value : goal.overflow_mul-value
overflow_mul-value c = record { fits = omega (arith, small _ _ _ c.loop-digit.invariant (few (goal.at.overflow_mul-value c).In-loop-digit) (omega arith)) }

pub overflow_add-value : goal.overflow_add-value
overflow_add-value c =
    record { fits = omega (arith, c.from.ensures, c.if-not-is_ascii_digit.ensures.cases, small _ _ _ c.loop-digit.invariant (few (goal.at.overflow_add-value c).In-loop-digit) (omega arith)) }

pub loop-digit-preserved : goal.loop-digit-preserved
loop-digit-preserved c =
    let d = c.if-not-is_ascii_digit.ensures.cases in
    subst (λ x. Sofar (10 * c.loop-digit.value + x) (c.loop-digit.digit-index + 1) c.args.digits.now) (sym c.from.ensures)
    (one_more _ _ _ c.loop-digit.invariant (few (goal.at.loop-digit-preserved c).In-loop-digit) c.loop-digit-test.true (record { not_below = omega (arith, d); not_above = omega (arith, d) }))
