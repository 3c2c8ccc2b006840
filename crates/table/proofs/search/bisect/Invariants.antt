use Rattle.std.proofs.Common.{◌-◌, ◌≤◌, length}
use Rattle.table.proofs.Bisection.{Narrowed}
use Rattle.table.proofs.search.bisect.Given as goal

abbrev pub invariant-loop-low : goal.invariant-loop-low
invariant-loop-low g l = (l.low ≤ l.high) × (l.high ≤ length l.entries) × Narrowed g.E.Entry.key g.E.Key.Ord.cmp l.entries l.key l.low l.high

abbrev pub decreases-loop-low : goal.decreases-loop-low
decreases-loop-low g l = l.high - l.low
