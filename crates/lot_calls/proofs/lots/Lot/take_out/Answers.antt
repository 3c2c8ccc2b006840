use Rattle.std.proofs.Common.{[], sym, refl, ap, ◌∙◌, subst, arith}
use Rattle.table.specs.Tables.{standing}
use Rattle.lot.specs.Rows.{row_of, Classed}
use Rattle.lot.proofs.Shares.{NineTallied, classed_at, classed_removed, true_from}
use Rattle.lot_calls.specs.Lots.{items}
use Rattle.lot_calls.specs.Sizes.{row_for, rows_of, Contains}
use Rattle.lot_calls.proofs.Changing.{contains_share, tallied_taken}
use Rattle.lot_calls.proofs.Tallies.{tallied_by, rows_by}
use Rattle.lot_calls.proofs.lots.Lot.take_out.Goals as goal

pub of-requires : goal.of-requires
of-requires c =
    let l = c.args.self.now in
    let taken = c.in_ok-item.ensures.change in
    true_from _ (classed_at (items l) taken.0 c.in_ok-item.item taken.1.0 l.classed)

pub lower-requires : goal.lower-requires
lower-requires c =
    let l = c.args.self.now in
    let e = c.in_ok-item.item in
    let taken = c.in_ok-item.ensures.change in
    let classed = classed_at (items l) taken.0 e taken.1.0 l.classed in
    let holds = contains_share e l.rows.by_class classed (items l) taken.0 (row_of 1 []) taken.1.0 (tallied_by (items l) l.rows l.tallied) in
    rw c.of.ensures (subst (Contains (row_for l.rows e.class)) (sym c.share_of.ensures) holds)

pub invariant_of-self-2 : goal.invariant_of-self-2
invariant_of-self-2 c =
    let l = c.args.self.now in
    let e = c.in_ok-item.item in
    let t' = c.remove.new.self in
    let s = c.in_ok-item.ensures in
    let taken = s.change in
    let classed = classed_at (items l) taken.0 e taken.1.0 l.classed in
    let k = c.of.result.number in
    let share = c.share_of.result in
    let left = tallied_taken e l.rows.by_class classed (items l) (standing t') taken.0 k share _ (row_of 1 []) c.of.ensures c.share_of.ensures taken.1.0 refl taken.1.1 (tallied_by (items l) l.rows l.tallied) in
    let tallied = rows_by (standing t') c.lower.new.self (subst (NineTallied (standing t')) (sym c.lower.ensures) left) in
    record { few = omega (arith, s.room, l.few); classed = subst Classed (sym taken.1.1) (classed_removed (items l) taken.0 l.classed); tallied = tallied }

-- without an item of the number nothing has changed
pub invariant_of-self : goal.invariant_of-self
invariant_of-self c =
    let l = c.args.self.now in
    let s = c.in_err-item.ensures in
    let same = s.change in
    record { few = omega (arith, s.room, l.few); classed = subst Classed (sym (ap standing same)) l.classed; tallied = l.tallied ∙ ap (λ t. rows_of (standing t)) (sym same) }
