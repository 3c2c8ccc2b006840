use Rattle.table.proofs.Standing.{known_from_found}
use Rattle.table.proofs.Table.find.Goals as goal

pub returns : goal.returns
returns g c =
    let place = c.bisect.ensures in
    rw (← c.entries.ensures) record { place = place; known = known_from_found g.E.Entry.key c.args.key g.met.E.Key.Ord.total _ _ place }
