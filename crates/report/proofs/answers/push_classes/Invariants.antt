use Rattle.std.proofs.Common.{◌≡◌, ◌-◌, ◌++◌, take, vec_items}
use Rattle.std.specs.List.{flat_map}
use Rattle.lot_calls.specs.Lots.{items}
use Rattle.report.specs.Output.{classes}
use Rattle.report.proofs.Classes.{class_bytes}
use Rattle.report.proofs.answers.push_classes.Given as goal

-- the lines of the classes so far
abbrev pub invariant-loop-class : goal.invariant-loop-class
invariant-loop-class l = vec_items l.out ≡ vec_items l.initial.out ++ flat_map (class_bytes (items l.lot)) (take (l.class - 1) classes)
