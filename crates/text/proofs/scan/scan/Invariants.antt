use Rattle.std.proofs.Common.{take}
use Rattle.text.specs.Machine.{SoFar}
use Rattle.text.proofs.scan.scan.Given as goal

abbrev pub invariant-loop-at : goal.invariant-loop-at
invariant-loop-at l = SoFar l.state (take l.at l.text)
