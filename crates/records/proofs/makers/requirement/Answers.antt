use Rattle.std.proofs.Common.{arith, w64, SFits, rules}
use Rattle.std.proofs.lemmas.Int.{to_z-of_z}
use Rattle.fields.specs.Values.{number_of}
use Rattle.records.specs.Tests.{limit_of, letter_of}
use Rattle.records.specs.Columns.{class_in, characteristic_in, tolerance_limit_in, rule_in, value_in, mode_in}
use Rattle.records.proofs.Walk.{walk_on, walk_off, arrive, meant}
use Rattle.records.proofs.Whole.{requirement_answered, requirement_refused}
use Rattle.records.proofs.makers.requirement.Goals as goal

pub returns-in_err-ranged : goal.returns-in_err-ranged
returns-in_err-ranged c =
    requirement_refused c.args.fields.now _ _ (omega arith) c.from_residual.ensures.1
    (walk_off number_of _ c.in_err-ranged.ensures)

pub returns-in_err-ranged-2 : goal.returns-in_err-ranged-2
returns-in_err-ranged-2 c =
    requirement_refused c.args.fields.now _ _ (omega arith) c.from_residual-in_err-ranged-2.ensures.1
    (walk_on number_of _ c.in_ok-ranged.ensures (walk_off number_of _ c.in_err-ranged-2.ensures))

pub returns-in_err-tolerance_limit : goal.returns-in_err-tolerance_limit
returns-in_err-tolerance_limit c =
    requirement_refused c.args.fields.now _ _ (omega arith) c.from_residual-in_err-tolerance_limit.ensures.1
    (walk_on number_of _ c.in_ok-ranged.ensures (walk_on number_of _ c.in_ok-ranged-2.ensures (walk_off limit_of _ c.in_err-tolerance_limit.ensures)))

pub returns-in_err-tolerance_limit-2 : goal.returns-in_err-tolerance_limit-2
returns-in_err-tolerance_limit-2 c =
    requirement_refused c.args.fields.now _ _ (omega arith) c.from_residual-in_err-tolerance_limit-2.ensures.1
    (walk_on number_of _ c.in_ok-ranged.ensures (walk_on number_of _ c.in_ok-ranged-2.ensures (walk_on limit_of _ c.in_ok-tolerance_limit.ensures (walk_off limit_of _ c.in_err-tolerance_limit-2.ensures))))

pub returns-in_err-rule_letter : goal.returns-in_err-rule_letter
returns-in_err-rule_letter c =
    requirement_refused c.args.fields.now _ _ (omega arith) c.from_residual-in_err-rule_letter.ensures.1
    (walk_on number_of _ c.in_ok-ranged.ensures (walk_on number_of _ c.in_ok-ranged-2.ensures (walk_on limit_of _ c.in_ok-tolerance_limit.ensures (walk_on limit_of _ c.in_ok-tolerance_limit-2.ensures (walk_off letter_of _ c.in_err-rule_letter.ensures)))))

pub returns-in_err-ranged-3 : goal.returns-in_err-ranged-3
returns-in_err-ranged-3 c =
    requirement_refused c.args.fields.now _ _ (omega arith) c.from_residual-in_err-ranged-3.ensures.1
    (walk_on number_of _ c.in_ok-ranged.ensures (walk_on number_of _ c.in_ok-ranged-2.ensures (walk_on limit_of _ c.in_ok-tolerance_limit.ensures (walk_on limit_of _ c.in_ok-tolerance_limit-2.ensures (walk_on letter_of _ c.in_ok-rule_letter.ensures (walk_off number_of _ c.in_err-ranged-3.ensures))))))

pub returns-in_err-ranged-4 : goal.returns-in_err-ranged-4
returns-in_err-ranged-4 c =
    requirement_refused c.args.fields.now _ _ (omega arith) c.from_residual-in_err-ranged-4.ensures.1
    (walk_on number_of _ c.in_ok-ranged.ensures (walk_on number_of _ c.in_ok-ranged-2.ensures (walk_on limit_of _ c.in_ok-tolerance_limit.ensures (walk_on limit_of _ c.in_ok-tolerance_limit-2.ensures (walk_on letter_of _ c.in_ok-rule_letter.ensures (walk_on number_of _ c.in_ok-ranged-3.ensures (walk_off number_of _ c.in_err-ranged-4.ensures)))))))

pub returns-in_err-mode_number : goal.returns-in_err-mode_number
returns-in_err-mode_number c =
    requirement_refused c.args.fields.now _ _ (omega arith) c.from_residual-in_err-mode_number.ensures.1
    (walk_on number_of _ c.in_ok-ranged.ensures (walk_on number_of _ c.in_ok-ranged-2.ensures (walk_on limit_of _ c.in_ok-tolerance_limit.ensures (walk_on limit_of _ c.in_ok-tolerance_limit-2.ensures (walk_on letter_of _ c.in_ok-rule_letter.ensures (walk_on number_of _ c.in_ok-ranged-3.ensures (walk_on number_of _ c.in_ok-ranged-4.ensures (walk_off number_of _ c.in_err-mode_number.ensures))))))))

pub returns : goal.returns
returns c =
    let ps = c.args.fields.now in
    let e1 = meant ps 1 class_in number_of _ c.in_ok-ranged.ensures in
    let e2 = meant ps 2 characteristic_in number_of _ c.in_ok-ranged-2.ensures in
    let e3 = meant ps 3 tolerance_limit_in limit_of _ c.in_ok-tolerance_limit.ensures in
    let e4 = meant ps 4 tolerance_limit_in limit_of _ c.in_ok-tolerance_limit-2.ensures in
    let e5 = meant ps 5 rule_in letter_of _ c.in_ok-rule_letter.ensures in
    let e6 = meant ps 6 value_in number_of _ c.in_ok-ranged-3.ensures in
    let e7 = meant ps 7 value_in number_of _ c.in_ok-ranged-4.ensures in
    let e8 = meant ps 8 mode_in number_of _ c.in_ok-mode_number.ensures in
    let f1 : SFits w64 c.in_ok-ranged.field-0 = search rules in
    let f2 : SFits w64 c.in_ok-ranged-2.field-0 = search rules in
    let f6 : SFits w64 c.in_ok-ranged-3.field-0 = search rules in
    let f7 : SFits w64 c.in_ok-ranged-4.field-0 = search rules in
    let f8 : SFits w64 c.in_ok-mode_number.field-0 = search rules in
    simp to_z-of_z (requirement_answered ps _ (omega arith) (walk_on number_of _ c.in_ok-ranged.ensures (walk_on number_of _ c.in_ok-ranged-2.ensures (walk_on limit_of _ c.in_ok-tolerance_limit.ensures (walk_on limit_of _ c.in_ok-tolerance_limit-2.ensures (walk_on letter_of _ c.in_ok-rule_letter.ensures (walk_on number_of _ c.in_ok-ranged-3.ensures (walk_on number_of _ c.in_ok-ranged-4.ensures (walk_on number_of _ c.in_ok-mode_number.ensures (arrive (λ i. record { class = e1 i; characteristic = e2 i; lower = e3 i; upper = e4 i; letter = e5 i; first = e6 i; second = e7 i; mode = e8 i })))))))))))
