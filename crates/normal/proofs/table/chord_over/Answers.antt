use Rattle.std.proofs.Common.{arith}
use Rattle.normal.specs.Values.{next, shrinks}
use Rattle.normal.proofs.table.chord_over.Goals as goal

pub returns : goal.returns
returns c =
    let k = c.args.tenth in
    let step = next k (omega arith) in
    record { within = omega arith; starts = c.value_at-start.ensures; ends = omega arith; no_steeper = λ j le. omega (arith, shrinks j k le (omega arith)) }
