use Rattle.numerals.proofs.Places.{Written}
use Rattle.numerals.proofs.write_digits.Given as goal

abbrev pub invariant-loop-place : goal.invariant-loop-place
invariant-loop-place l = Written l.number l.place l.digits l.rest
