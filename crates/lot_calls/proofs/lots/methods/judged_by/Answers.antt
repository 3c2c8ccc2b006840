use Rattle.std.proofs.Common.{sym, ◌∙◌}
use Rattle.std.proofs.lemmas.Int.{to_z-of_z}
use Rattle.table.specs.Tables.{standing}
use Rattle.lot.specs.Book.{requirement_for}
use Rattle.lot_calls.proofs.Answering.{judged_found, fitting}
use Rattle.lot_calls.proofs.lots.methods.judged_by.Goals as goal

pub returns : goal.returns
returns g c =
    let f = c.args.fields.now in
    let fit = fitting f c.requires in
    let class = fit.class_fits in
    let characteristic = fit.characteristic_fits in
    let expanded = fit.expanded_fits in
    let reading = fit.reading_fits in
    judged_found (requirement_for (standing c.args.sheet.now.table) f) c.in_ok-requirement.requirement f (g.K.Knowledge.answers c.args.knowledge.now) c.judge.result
    (sym (simp to_z-of_z at c.find.ensures) ∙ c.in_ok-requirement.ensures.ok_part) (simp to_z-of_z at c.judge.ensures)
