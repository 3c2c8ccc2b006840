use Rattle.std.proofs.Common.{length}
use Rattle.text.specs.Reading.{left}
use Rattle.records_tests.proofs.show.RecordsDisplay.fmt.Given as goal

-- each record takes a byte at least
abbrev pub decreases-loop-read : goal.decreases-loop-read
decreases-loop-read g l = length (left l.reader)
