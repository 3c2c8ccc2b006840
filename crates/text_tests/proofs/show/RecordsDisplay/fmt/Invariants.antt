use Rattle.std.proofs.Common.{length}
use Rattle.text.specs.Reading.{left}
use Rattle.text_tests.proofs.show.RecordsDisplay.fmt.Given as goal

-- each record takes a byte at least
abbrev pub decreases-loop-record : goal.decreases-loop-record
decreases-loop-record g l = length (left l.reader)
