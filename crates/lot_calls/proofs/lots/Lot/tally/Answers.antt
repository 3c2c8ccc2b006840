use Rattle.std.proofs.Common.{ap, ◌≡◌, [], nat_abs, ◌∙◌, rules}
use Rattle.std.proofs.lemmas.Int.{to_z-of_z}
use Rattle.faults.proofs.Checks.{no_refusal, its_value, answered_alike}
use Rattle.lot.specs.Book.{tally_refusal}
use Rattle.lot.specs.Rows.{row_of}
use Rattle.lot.specs.declared.items.Row.{Row}
use Rattle.lot_calls.specs.Lots.{items, class_row}
use Rattle.lot_calls.specs.Sizes.{row_for}
use Rattle.lot_calls.specs.declared.class.Class.{Class}
use Rattle.lot_calls.proofs.Answering.{class_tallied}
use Rattle.lot_calls.proofs.Carrying.{tallied_carries}
use Rattle.lot_calls.proofs.Tallies.{tallied_by}
use Rattle.lot_calls.proofs.lots.Lot.tally.Goals as goal

pub returns-in_err-class-clause-run : goal.returns-in_err-class-clause-run
returns-in_err-class-clause-run c = tallied_carries c.args.self.now c.args.class c.from_residual.result (search rules)

pub returns : goal.returns
returns c =
    let l = c.args.self.now in
    let number = c.args.class in
    let f = c.ranges.class in
    let e = simp to_z-of_z at c.in_ok-class.ensures in
    let none = no_refusal (λ (x : Class). x.number ≡ nat_abs number) (tally_refusal number) c.in_ok-class.class e in
    let its = its_value (λ (x : Class). x.number ≡ nat_abs number) (tally_refusal number) c.in_ok-class.class e in
    let is = c.of.ensures ∙ ap (λ k. row_for l.rows k) its in
    let a = answered_alike (λ (x : Class). x.number ≡ nat_abs number) (λ (r : Row). r ≡ class_row l (nat_abs number)) (tally_refusal number) c.in_ok-class.class c.of.result e
    (is ∙ class_tallied (items l) l.rows.by_class (row_of 1 []) number (tallied_by (items l) l.rows l.tallied) none) in
    record { outcome = a; run = tallied_carries l number _ a }
