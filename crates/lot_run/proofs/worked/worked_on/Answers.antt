use Rattle.std.proofs.Common.{Ok, Err, ◌∙◌}
use Rattle.table.specs.Tables.{standing}
use Rattle.lot_run.proofs.Sums.{two_bounded, one_bounded}
use Rattle.lot_run.proofs.Runs.{enter_7, enter_8, enter_7_again, tally_both, strike_7, show_8, tally_8}
use Rattle.lot_run.proofs.worked.worked_on.Goals as goal

pub returns-in_err-first : goal.returns-in_err-first
returns-in_err-first c =
    let sheet = standing c.args.sheet.now.table in
    let s = c.args.knowledge.now.half_width in
    let required = c.requires.required in
    let known = c.requires.known in
    absurd (enter_7 sheet required s known c.args.lot.now c.requires.empty c.grade.result (Err c.in_err-first.field-0.0) c.enter.new.self c.grade.ensures c.in_err-first.ensures.run).0

pub returns-in_err-second : goal.returns-in_err-second
returns-in_err-second c =
    let sheet = standing c.args.sheet.now.table in
    let s = c.args.knowledge.now.half_width in
    let required = c.requires.required in
    let known = c.requires.known in
    let one = enter_7 sheet required s known c.args.lot.now c.requires.empty c.grade.result (Ok c.in_ok-first.first) c.enter.new.self c.grade.ensures c.in_ok-first.ensures.run in
    absurd (enter_8 sheet required s known c.enter.new.self one.1 c.grade-2.result (Err c.in_err-second.field-0.0) c.enter-2.new.self c.grade-2.ensures c.in_err-second.ensures.run).0

pub returns-in_err-strike : goal.returns-in_err-strike
returns-in_err-strike c =
    let sheet = standing c.args.sheet.now.table in
    let s = c.args.knowledge.now.half_width in
    let required = c.requires.required in
    let known = c.requires.known in
    let one = enter_7 sheet required s known c.args.lot.now c.requires.empty c.grade.result (Ok c.in_ok-first.first) c.enter.new.self c.grade.ensures c.in_ok-first.ensures.run in
    let two = enter_8 sheet required s known c.enter.new.self one.1 c.grade-2.result (Ok c.in_ok-second.second) c.enter-2.new.self c.grade-2.ensures c.in_ok-second.ensures.run in
    let again = enter_7_again sheet required s known c.enter-2.new.self two.1 c.grade-3.result c.enter-3.result c.enter-3.new.self c.grade-3.ensures c.enter-3.ensures.run in
    absurd (strike_7 sheet required s known c.enter-3.new.self again.1 (Err c.in_err-strike.field-0.0) c.strike.new.self c.in_err-strike.ensures.run).0

pub returns-in_err-shown : goal.returns-in_err-shown
returns-in_err-shown c =
    let sheet = standing c.args.sheet.now.table in
    let s = c.args.knowledge.now.half_width in
    let required = c.requires.required in
    let known = c.requires.known in
    let one = enter_7 sheet required s known c.args.lot.now c.requires.empty c.grade.result (Ok c.in_ok-first.first) c.enter.new.self c.grade.ensures c.in_ok-first.ensures.run in
    let two = enter_8 sheet required s known c.enter.new.self one.1 c.grade-2.result (Ok c.in_ok-second.second) c.enter-2.new.self c.grade-2.ensures c.in_ok-second.ensures.run in
    let again = enter_7_again sheet required s known c.enter-2.new.self two.1 c.grade-3.result c.enter-3.result c.enter-3.new.self c.grade-3.ensures c.enter-3.ensures.run in
    let left = (strike_7 sheet required s known c.enter-3.new.self again.1 (Ok c.in_ok-strike.field-0) c.strike.new.self c.in_ok-strike.ensures.run).1 in
    absurd (show_8 sheet required s known c.strike.new.self again.1.rules_8 left (Err c.in_err-shown.field-0.0) c.in_err-shown.ensures.run)

pub returns : goal.returns
returns c =
    let sheet = standing c.args.sheet.now.table in
    let s = c.args.knowledge.now.half_width in
    let required = c.requires.required in
    let known = c.requires.known in
    let q = required.0 in
    let h = required.1 in
    let one = enter_7 sheet required s known c.args.lot.now c.requires.empty c.grade.result (Ok c.in_ok-first.first) c.enter.new.self c.grade.ensures c.in_ok-first.ensures.run in
    let two = enter_8 sheet required s known c.enter.new.self one.1 c.grade-2.result (Ok c.in_ok-second.second) c.enter-2.new.self c.grade-2.ensures c.in_ok-second.ensures.run in
    let again = enter_7_again sheet required s known c.enter-2.new.self two.1 c.grade-3.result c.enter-3.result c.enter-3.new.self c.grade-3.ensures c.enter-3.ensures.run in
    let met = one.0.1.bracket_holds.floor_met in
    let rules_7 = again.1.rules_7 in
    let rules_8 = again.1.rules_8 in
    let left = (strike_7 sheet required s known c.enter-3.new.self again.1 (Ok c.in_ok-strike.field-0) c.strike.new.self c.in_ok-strike.ensures.run).1 in
    let before = tally_both sheet required s known c.enter-3.new.self again.1 (Ok c.in_ok-before.before) c.in_ok-before.ensures.run in
    let after = tally_8 sheet required s known c.strike.new.self rules_8 left (Ok c.in_ok-after.after) c.in_ok-after.ensures.run in
    record {
      first_is = one.0.0;
      second_is = two.0.0;
      again_is = c.err-again.ensures.value ∙ again.0;
      before_is = before.row_is;
      shown_is = show_8 sheet required s known c.strike.new.self rules_8 left (Ok c.in_ok-shown.shown) c.in_ok-shown.ensures.run;
      after_is = after.row_is;
      held = record { requirement = q; made = h; rules_7 = rules_7; rules_8 = rules_8; two_hold = before.sums; one_holds = after.sums };
      some_admitted = (met.0, met.1);
      two_bounded = two_bounded q h rules_7 rules_8 c.in_ok-before.before before.sums;
      one_bounded = one_bounded q h rules_8 c.in_ok-after.after after.sums;
    }
