use Rattle.std.proofs.Common.{◌+◌, ◌-◌, ◌/◌, ◌<◌, length, Less, Equal, Greater, arith}
use Rattle.table.proofs.Bisection.{compared, narrowed_above, narrowed_below}
use Rattle.table.proofs.search.bisect.Goals as goal

pub loop-low-preserved-in-Less : goal.loop-low-preserved-in-Less
loop-low-preserved-in-Less g c =
    let total = g.met.E.Key.Ord.total in
    let xs = c.args.entries.now in
    let m = c.loop-low.low + (c.loop-low.high - c.loop-low.low) / 2 in
    let within : m < length xs = omega arith in
    let less = compared g.E.Entry.key total xs c.requires c.args.key m c.index-entries-middle.result c.key.result Less within c.index-entries-middle.is c.key.ensures c.in-Less.ensures in
    (omega arith, omega arith, narrowed_above g.E.Entry.key total xs c.requires c.args.key c.loop-low.low c.loop-low.high m within less c.loop-low.invariant.2)

pub loop-low-preserved : goal.loop-low-preserved
loop-low-preserved g c =
    let total = g.met.E.Key.Ord.total in
    let xs = c.args.entries.now in
    let m = c.loop-low.low + (c.loop-low.high - c.loop-low.low) / 2 in
    let within : m < length xs = omega arith in
    let greater = compared g.E.Entry.key total xs c.requires c.args.key m c.index-entries-middle.result c.key.result Greater within c.index-entries-middle.is c.key.ensures c.in-Greater.ensures in
    (omega arith, omega arith, narrowed_below g.E.Entry.key total xs c.requires c.args.key c.loop-low.low c.loop-low.high m within greater c.loop-low.invariant.2)

pub returns-in-Equal : goal.returns-in-Equal
returns-in-Equal g c =
    let total = g.met.E.Key.Ord.total in
    let xs = c.args.entries.now in
    let m = c.loop-low.low + (c.loop-low.high - c.loop-low.low) / 2 in
    let within : m < length xs = omega arith in
    let equal = compared g.E.Entry.key total xs c.requires c.args.key m c.index-entries-middle.result c.key.result Equal within c.index-entries-middle.is c.key.ensures c.in-Equal.ensures in
    (within, λ d. g.met.E.Entry.exact _ _ (equal d))
