use Rattle.std.proofs.Common.{◌≡◌, w64, SFits, rules}
use Rattle.std.proofs.lemmas.Result.{err_from_is_err_and}
use Rattle.std.proofs.lemmas.Int.{to_z-of_z}
use Rattle.records.specs.Entries.{item_meant}
use Rattle.table.specs.Tables.{standing}
use Rattle.intake.specs.Faults.{placed}
use Rattle.intake.proofs.Steps.{was_ok, was_err, enter_refused, was_entered, layered, entered_number, number_cast}
use Rattle.intake.proofs.enter.Goals as goal

pub overflow_cast-result : goal.overflow_cast-result
overflow_cast-result c =
    let number : SFits w64 c.args.row.now.number = search rules in
    let was = was_ok _ c.enter.result c.in_ok-judgement.judgement c.in_ok-judgement.ensures.cases c.in_ok-judgement.ensures.variant in
    let outcome = rw was at c.enter.ensures.outcome in
    let range = entered_number c.args.lot.now (standing c.args.sheet.now.table) c.fields_of.result _ c.in_ok-judgement.judgement c.enter.new.self outcome in
    simp to_z-of_z (number_cast c.args.row.now.number (rw c.fields_of.ensures at range))

pub returns : goal.returns
returns c =
    let row = c.args.row.now in
    let m = item_meant row in
    let bias : SFits w64 row.bias = search rules in
    let number : SFits w64 row.number = search rules in
    let made = simp to_z-of_z at c.new-knowledge.ensures in
    let was = was_ok _ c.enter.result c.in_ok-judgement.judgement c.in_ok-judgement.ensures.cases c.in_ok-judgement.ensures.variant in
    let outcome = rw (was, c.fields_of.ensures, layered row _ _ made.0 made.1) at c.enter.ensures.outcome in
    let run = rw (was, c.fields_of.ensures, layered row _ _ made.0 made.1) at c.enter.ensures.run in
    simp to_z-of_z
    (record {
      same = c.enter.ensures.same;
      step = was_entered c.args.number m c.args.sheet.now c.args.lot.now c.enter.new.self c.in_ok-judgement.judgement outcome;
      lists = (_, outcome, run);
    })

pub returns-in_err-judgement : goal.returns-in_err-judgement
returns-in_err-judgement c =
    let row = c.args.row.now in
    let m = item_meant row in
    let bias : SFits w64 row.bias = search rules in
    let made = simp to_z-of_z at c.new-knowledge.ensures in
    let was = was_err _ c.enter.result c.in_err-judgement.field-0.0 c.in_err-judgement.ensures.cases in
    let told = was.2 in
    let is : c.in_err-judgement.field-0.0 ≡ placed c.args.number was.0.refusal = search rules in
    let p = err_from_is_err_and c.from_residual.result c.from_residual.ensures.1 in
    let outcome = rw (was.1, c.fields_of.ensures, layered row _ _ made.0 made.1) at c.enter.ensures.outcome in
    let run = rw (was.1, c.fields_of.ensures, layered row _ _ made.0 made.1) at c.enter.ensures.run in
    rw (p.1, p.2, is)
    (record {
      same = c.enter.ensures.same;
      step = enter_refused c.args.number m c.args.sheet.now c.args.lot.now c.enter.new.self _ outcome;
      lists = (_, outcome, run);
    })
