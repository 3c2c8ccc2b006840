use Rattle.std.proofs.Common.{length, vec_items}
use Rattle.text.specs.Reading.{left}
use Rattle.intake.specs.Intake.{State, Holds}
use Rattle.report.proofs.Turning.{SoFar}
use Rattle.report.proofs.reading.read_records.Given as goal

-- what was read and written so far, whatever stood before
abbrev pub invariant-loop : goal.invariant-loop
invariant-loop l = (s : State) → Holds l.initial.sheet l.initial.lot s → SoFar l.text s (vec_items l.initial.out) l.reader l.sheet l.lot (vec_items l.out)

abbrev pub decreases-loop : goal.decreases-loop
decreases-loop l = length (left l.reader)
