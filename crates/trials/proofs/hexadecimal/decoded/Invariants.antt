use Rattle.std.proofs.Common.{◌≡◌, ◌++◌, length}
use Rattle.trials.specs.Hexadecimal.{spelled_bytes}
use Rattle.trials.proofs.hexadecimal.decoded.Given as goal

-- what was written, and what the digits left spell
abbrev pub invariant-loop-left : goal.invariant-loop-left
invariant-loop-left l = spelled_bytes l.digits ≡ l.bytes.items ++ spelled_bytes l.left

abbrev pub decreases-loop-left : goal.decreases-loop-left
decreases-loop-left l = length l.left
