use Rattle.std.proofs.Common.{◌≡◌, ℕ, true, ◌++◌, length, take, vec_items, ap, ◌∙◌, subst, rules}
use Rattle.std.specs.List.{flat_map}
use Rattle.records.specs.Cells.{cells}
use Rattle.records.specs.Entries.{answer_of}
use Rattle.intake.specs.Intake.{TakesIn}
use Rattle.lines.specs.Lines.{spelled}
use Rattle.report.specs.Output.{listed}
use Rattle.report.specs.Turns.{Turn}
use Rattle.report.proofs.Taking.{nothing_left, text_refused, record_taken}
use Rattle.report.proofs.reading.turn.Goals as goal

pub returns-in-Err : goal.returns-in-Err
returns-in-Err c = λ s holds. text_refused c.args.reader.now s c.args.sheet.now c.args.lot.now _ _ c.in-Err.fault c.in-Err.ensures.0 c.in_ok-push-in-Err.ensures holds

pub returns-in-Ok-None : goal.returns-in-Ok-None
returns-in-Ok-None c =
    let e = rw c.in-Ok-None.field-0-is at c.in-Ok-None.ensures in
    λ s holds. nothing_left c.args.reader.now s c.args.sheet.now c.args.lot.now _ e.0 holds

pub returns : goal.returns
returns c =
    let r = c.args.reader.now in
    let r' = c.next_record.new.self in
    let old = c.args.fields.now in
    let new = c.next_record.new.fields in
    let rec = c.in-Ok-Some.record in
    let ten : length old ≡ 10 = search rules in
    let hands = rw c.in-Ok-Some.field-0-is at c.in-Ok-Some.ensures in
    let takes = subst
    (λ (k : ℕ). TakesIn rec.number (answer_of rec.number (cells (take k new))) c.take_in-answer.result c.args.sheet.now c.args.lot.now c.take_in-answer.new.sheet c.take_in-answer.new.lot)
    c.min-count.ensures c.take_in-answer.ensures.step in
    let written = c.in_ok-push_if.ensures ∙ ap (λ l. vec_items c.args.out.now ++ flat_map spelled (listed l)) c.line_for.ensures in
    -- whatever became of the record, there was one
    let turned : Turn r r' c.args.sheet.now c.args.lot.now c.take_in-answer.new.sheet c.take_in-answer.new.lot (vec_items c.args.out.now) (vec_items c.push_if.new.out) true = λ s holds.
    record_taken r r' old new rec ten hands c.args.sheet.now c.take_in-answer.new.sheet c.args.lot.now c.take_in-answer.new.lot c.take_in-answer.result (vec_items c.args.out.now)
    (vec_items c.push_if.new.out) s takes written holds in
    turned
