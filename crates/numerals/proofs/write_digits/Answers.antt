use Rattle.std.proofs.Common.{◌≡◌, ◌-◌, ◌/◌, ◌%◌, ◌^◌, ap, ◌∙◌, mod-lt, arith}
use Rattle.numerals.proofs.Places.{power_some, digit_at, written_zero, written_digit, written_all}
use Rattle.numerals.proofs.write_digits.Goals as goal
use Rattle.numerals.proofs.write_digits.Goals.{then-value-rest, else-value-rest}

pub digit-requires : goal.digit-requires
digit-requires c =
    let n = c.args.number in
    let i = c.loop-place.place in
    let rest = c.loop-place.rest in
    let value = c.place_value-value.ensures in
    let at : rest / c.place_value-value.result ≡ n / 10 ^ (10 - i) % 10 = ap (λ v. rest / v) value ∙ digit_at n i rest (omega arith) c.loop-place.invariant.3 in
    record { some = omega (arith, value, power_some (10 - i)); one = omega (arith, at, mod-lt (n / 10 ^ (10 - i)) {m = 10} (omega arith)) }

pub nonzero_rem-rest : goal.nonzero_rem-rest
nonzero_rem-rest c = omega (arith, c.place_value-value.ensures, power_some (10 - c.loop-place.place))

pub loop-place-preserved : goal.loop-place-preserved
loop-place-preserved c =
    let n = c.args.number in
    let i = c.loop-place.place in
    let rest = c.loop-place.rest in
    let ds = c.loop-place.digits in
    let value = c.place_value-value.ensures in
    elim c.if-value-rest.branch [
      | then-value-rest w ↦ rw (w.digits-is, w.rest-is) (written_digit n i rest _ _ ds (omega arith) c.loop-place.invariant value w.digit.ensures)
      | else-value-rest w ↦ rw (w.digits-is, w.rest-is) (written_zero n i rest ds (omega arith) c.loop-place.invariant (omega (arith, value, w.if-value-rest.false)))
    ]

pub returns : goal.returns
returns c = written_all c.args.number _ c.loop-place.rest c.loop-place.digits (omega arith) c.loop-place.invariant
