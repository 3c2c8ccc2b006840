use Rattle.std.proofs.Common.{◌≡◌, refl, rules}
use Rattle.std.proofs.lemmas.Result.{err_from_is_err_and}
use Rattle.intake.specs.Faults.{placed}
use Rattle.intake.proofs.Steps.{was_ok, was_err, made_refused, made_none, made_one, add_refused, was_added}
use Rattle.intake.proofs.add.Goals as goal

pub returns-in_err-requirement : goal.returns-in_err-requirement
returns-in_err-requirement c =
    let was = was_err _ c.new.result c.in_err-requirement.field-0.0 c.in_err-requirement.ensures.cases in
    let told = was.2 in
    let is : c.in_err-requirement.field-0.0 ≡ placed c.args.number was.0.refusal = search rules in
    let p = err_from_is_err_and c.from_residual.result c.from_residual.ensures.1 in
    let made = rw was.1 at c.new.ensures in
    rw (p.1, p.2, is)
    (record {
      same = refl;
      step = made_refused c.args.number c.args.row.now _ c.args.sheet.now made;
      lists = made_none c.args.row.now _ c.args.sheet.now.table made;
    })

pub returns-in_err-map_err : goal.returns-in_err-map_err
returns-in_err-map_err c =
    let q = c.in_ok-requirement.requirement in
    let added = was_ok _ c.new.result q c.in_ok-requirement.ensures.cases c.in_ok-requirement.ensures.variant in
    let made = rw added at c.new.ensures in
    let was = was_err _ c.add.result c.in_err-map_err.field-0.0 c.in_err-map_err.ensures.cases in
    let told = was.2 in
    let is : c.in_err-map_err.field-0.0 ≡ placed c.args.number was.0.refusal = search rules in
    let p = err_from_is_err_and c.from_residual-in_err-map_err.result c.from_residual-in_err-map_err.ensures.1 in
    let d = rw was.1 at c.add.ensures.outcome in
    rw (p.1, p.2, is)
    (record {
      same = c.add.ensures.same;
      step = λ lot s holds. add_refused c.args.sheet.now c.add.new.self lot q s holds c.args.number c.args.row.now _ made d;
      lists = made_one c.args.row.now q c.args.sheet.now.table c.add.new.self.table _ made d;
    })

pub returns : goal.returns
returns c =
    let q = c.in_ok-requirement.requirement in
    let was = was_ok _ c.new.result q c.in_ok-requirement.ensures.cases c.in_ok-requirement.ensures.variant in
    let made = rw was at c.new.ensures in
    let added = was_ok _ c.add.result tt c.in_ok-map_err.ensures.cases c.in_ok-map_err.ensures.variant in
    let d = rw added at c.add.ensures.outcome in
    record {
      same = c.add.ensures.same;
      step = λ lot s holds. was_added c.args.sheet.now c.add.new.self lot q s holds c.args.number c.args.row.now made d;
      lists = made_one c.args.row.now q c.args.sheet.now.table c.add.new.self.table _ made d;
    }
