use Rattle.std.proofs.Common.{◌≡◌}
use Rattle.table.specs.Tables.{standing}
use Rattle.lot_run.proofs.Runs.{added_first}
use Rattle.lot_run.proofs.worked.worked_lot.Goals as goal

pub worked_on-requires : goal.worked_on-requires
worked_on-requires c =
    let q = c.in_ok-requirement.requirement in
    let stands = c.in_ok-add.ensures.outcome.change in
    let same : c.in_ok-knowledge.knowledge.half_width ≡ 100 = cc c.in_ok-knowledge.ensures in
    let alone = added_first (standing c.new-sheet.result.table) (standing c.add.new.self.table) stands.place q c.new-sheet.ensures.empty.0 stands.within stands.standing_is in
    record { empty = c.new-lot.ensures.run; required = (q, c.in_ok-requirement.ensures, alone); known = same }
