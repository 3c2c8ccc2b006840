use Rattle.std.proofs.Common.{[], sym, refl, subst, arith}
use Rattle.table.specs.Tables.{standing}
use Rattle.lot.specs.Rows.{row_of, Classed}
use Rattle.lot.proofs.Shares.{NineTallied, row_at, classed_inserted}
use Rattle.lot_calls.specs.Lots.{items}
use Rattle.lot_calls.specs.Sizes.{RowOfAtMost}
use Rattle.lot_calls.proofs.Changing.{granted, row_few, its_class, tallied_put}
use Rattle.lot_calls.proofs.Tallies.{tallied_by, rows_by}
use Rattle.lot_calls.proofs.lots.Lot.put_in.Goals as goal

pub raise-requires-clause-many : goal.raise-requires-clause-many
raise-requires-clause-many c =
    let l = c.args.self.now in
    let e = c.args.item in
    let at = row_at e l.rows.by_class (its_class e c.requires.classed) (items l) (row_of 1 []) (tallied_by (items l) l.rows l.tallied) in
    rw c.of.ensures (subst (RowOfAtMost 10000) (sym at) (row_few (items l) e.class 10000 (omega (arith, l.table.ordered.0, l.few))))

pub invariant_of-self : goal.invariant_of-self
invariant_of-self c =
    let l = c.args.self.now in
    let e = c.args.item in
    let t' = c.insert.new.self in
    let s = c.insert.ensures in
    let stood = granted l.table t' e c.requires.free c.insert.result s.outcome s.change in
    let class = its_class e c.requires.classed in
    let k = c.of.result.number in
    let share = c.share_of.result in
    let put = tallied_put e l.rows.by_class class (items l) (standing t') stood.0 k share _ (row_of 1 []) c.of.ensures c.share_of.ensures refl stood.2 (tallied_by (items l) l.rows l.tallied) in
    let tallied = rows_by (standing t') c.raise.new.self (subst (NineTallied (standing t')) (sym c.raise.ensures) put) in
    record { few = omega (arith, s.room, l.few); classed = subst Classed (sym stood.2) (classed_inserted (items l) stood.0 e class l.classed); tallied = tallied }

pub returns-clause-stands : goal.returns-clause-stands
returns-clause-stands c =
    let l = c.args.self.now in
    let s = c.insert.ensures in
    let stood = granted l.table c.insert.new.self c.args.item c.requires.free c.insert.result s.outcome s.change in
    record { place = stood.0; within = stood.1; items_are = stood.2; beyond_is = stood.3 }
