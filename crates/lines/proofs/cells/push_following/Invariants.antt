use Rattle.std.proofs.Common.{◌≡◌, ◌++◌, map, take, vec_items}
use Rattle.lines.specs.Lines.{written, following}
use Rattle.lines.proofs.cells.push_following.Given as goal

-- the fields that were gone through are written
abbrev pub invariant-loop-cell : goal.invariant-loop-cell
invariant-loop-cell l = vec_items l.out ≡ vec_items l.initial.out ++ following (map written (take l.cell-index l.cells))
