use Rattle.std.proofs.Common.{◌≡◌, Ok, Err, rules}
use Rattle.std.proofs.lemmas.Result.{err_from_is_err_and}
use Rattle.std.proofs.lemmas.Int.{to_z-of_z}
use Rattle.faults.specs.Faults.{direct}
use Rattle.faults.specs.declared.Refusal.TheVariants.{NoItem}
use Rattle.lot_calls.proofs.Carrying.{struck_carries}
use Rattle.lot_calls.proofs.Outcomes.{none_out, one_out}
use Rattle.lot_calls.proofs.lots.Lot.strike.Goals as goal

pub returns-in_err-check_number-clause-run : goal.returns-in_err-check_number-clause-run
returns-in_err-check_number-clause-run c = struck_carries c.args.self.now c.args.number _ c.args.self.now (search rules)

pub returns-in_err-ok_or : goal.returns-in_err-ok_or
returns-in_err-ok_or c =
    let l = c.args.self.now in
    let f = c.ranges.number in
    let n = c.args.number in
    let s = c.take_out.ensures in
    let none = c.in_err-ok_or.ensures.ok_part in
    let change = simp to_z-of_z at rw none at s.change in
    let done = none_out l n c.take_out.new.self (simp to_z-of_z at c.in_ok-check_number.ensures) s.keeps change.0 change.1 in
    let p = err_from_is_err_and c.from_residual-in_err-ok_or.result c.from_residual-in_err-ok_or.ensures.1 in
    let is : c.from_residual-in_err-ok_or.result ≡ Err (direct NoItem) = cc (p.1, p.2, rw none at c.in_err-ok_or.ensures.value, c.direct.ensures) in
    rw is (record { same = s.same; outcome = done; run = struck_carries l n _ c.take_out.new.self done })

pub returns : goal.returns
returns c =
    let l = c.args.self.now in
    let f = c.ranges.number in
    let n = c.args.number in
    let s = c.take_out.ensures in
    let change = simp to_z-of_z at rw c.in_ok-ok_or.ensures.ok_part at s.change in
    let done = one_out l n c.take_out.new.self (simp to_z-of_z at c.in_ok-check_number.ensures) s.keeps _ change in
    record { same = s.same; outcome = done; run = struck_carries l n (Ok tt) c.take_out.new.self done }
