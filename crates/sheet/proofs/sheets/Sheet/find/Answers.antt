use Rattle.table.specs.Tables.{standing}
use Rattle.sheet.proofs.Lookups.{lookup_picks, picked_unique}
use Rattle.sheet.proofs.sheets.Sheet.find.Goals as goal

pub returns : goal.returns
returns c =
    let s = c.args.self.now in
    let qs = standing s.table in
    picked_unique qs s.table.ordered.1 (c.args.class, c.args.characteristic) c.lookup.result _ c.lookup.ensures (lookup_picks qs c.args.class c.args.characteristic)
