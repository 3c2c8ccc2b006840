use Rattle.std.proofs.Common.{vec_items}
use Rattle.report.specs.Output.{at_first}
use Rattle.report.proofs.Whole.{holds_at_first, all_parts}
use Rattle.report.proofs.report.Goals as goal

pub returns : goal.returns
returns c =
    let sheet = c.new-sheet.ensures.empty in
    let lot = c.new-lot.ensures.empty in
    let holds = holds_at_first c.new-sheet.result c.new-lot.result sheet.0 sheet.1 lot.0 lot.1 in
    all_parts c.args.text.now (vec_items c.new-out.result) (vec_items c.push.new.out) (vec_items c.read_records.new.out) (vec_items c.push_classes.new.out) c.read_records.new.sheet c.read_records.new.lot
    (c.in_ok-read_records.ensures at_first holds) c.new-out.ensures.items c.in_ok-push.ensures c.in_ok-push_classes.ensures
