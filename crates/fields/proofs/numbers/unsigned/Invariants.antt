use Rattle.fields.proofs.Places.{Sofar}
use Rattle.fields.proofs.numbers.unsigned.Given as goal

abbrev pub invariant-loop-digit : goal.invariant-loop-digit
invariant-loop-digit l = Sofar l.value l.digit-index l.digits
