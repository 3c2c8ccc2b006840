use Rattle.std.proofs.Common.{arith}
use Rattle.std.proofs.lemmas.Int.{ints, to_z-of_z}
use Rattle.rectangular.specs.Interval.{covered_held, covered_nearest}
use Rattle.rectangular.proofs.Rectangular.covered.Goals as goal

pub returns : goal.returns
returns c =
    let s = c.args.self.now in
    let held = covered_held s.half_width c.nearest_offset.result in
    let near = covered_nearest s.half_width c.args.offset s.bounded in
    grind (arith, ints, to_z-of_z, held, near)
