use Rattle.std.proofs.Common.{◌∙◌, subst, arith, w64, SFits, rules}
use Rattle.std.proofs.lemmas.Int.{to_z-of_z}
use Rattle.fields.specs.Values.{number_of}
use Rattle.kinds.specs.Kinds.{spread_of}
use Rattle.records.specs.Tests.{letter_of}
use Rattle.records.specs.Columns.{item_number_in, class_in, characteristic_in, value_in, kind_in, spread_in, bias_in}
use Rattle.records.proofs.Walk.{walk_on, walk_off, arrive, meant}
use Rattle.records.proofs.Whole.{item_answered, item_refused, Says, Refused}
use Rattle.records.proofs.makers.item.Goals as goal

pub returns-in_err-ranged : goal.returns-in_err-ranged
returns-in_err-ranged c =
    let ps = c.args.fields.now in
    item_refused ps _ _ (omega arith) c.from_residual.ensures.1
    (walk_off number_of _ c.in_err-ranged.ensures)

pub returns-in_err-ranged-2 : goal.returns-in_err-ranged-2
returns-in_err-ranged-2 c =
    let ps = c.args.fields.now in
    item_refused ps _ _ (omega arith) c.from_residual-in_err-ranged-2.ensures.1
    (walk_on number_of _ c.in_ok-ranged.ensures (walk_off number_of _ c.in_err-ranged-2.ensures))

pub returns-in_err-ranged-3 : goal.returns-in_err-ranged-3
returns-in_err-ranged-3 c =
    let ps = c.args.fields.now in
    item_refused ps _ _ (omega arith) c.from_residual-in_err-ranged-3.ensures.1
    (walk_on number_of _ c.in_ok-ranged.ensures (walk_on number_of _ c.in_ok-ranged-2.ensures (walk_off number_of _ c.in_err-ranged-3.ensures)))

pub returns-in_err-ranged-4 : goal.returns-in_err-ranged-4
returns-in_err-ranged-4 c =
    let ps = c.args.fields.now in
    item_refused ps _ _ (omega arith) c.from_residual-in_err-ranged-4.ensures.1
    (walk_on number_of _ c.in_ok-ranged.ensures (walk_on number_of _ c.in_ok-ranged-2.ensures (walk_on number_of _ c.in_ok-ranged-3.ensures (walk_off number_of _ c.in_err-ranged-4.ensures))))

pub returns-in_err-kind_letter : goal.returns-in_err-kind_letter
returns-in_err-kind_letter c =
    let ps = c.args.fields.now in
    item_refused ps _ _ (omega arith) c.from_residual-in_err-kind_letter.ensures.1
    (walk_on number_of _ c.in_ok-ranged.ensures (walk_on number_of _ c.in_ok-ranged-2.ensures (walk_on number_of _ c.in_ok-ranged-3.ensures (walk_on number_of _ c.in_ok-ranged-4.ensures (walk_off letter_of _ c.in_err-kind_letter.ensures)))))

pub returns-in_err-known_kind : goal.returns-in_err-known_kind
returns-in_err-known_kind c =
    let ps = c.args.fields.now in
    let named = meant ps 5 kind_in letter_of _ c.in_ok-kind_letter.ensures in
    let spread = subst (λ l. Refused ps 6 (spread_in l) c.in_err-known_kind.field-0.0) named c.in_err-known_kind.ensures.spread in
    item_refused ps _ _ (omega arith) c.from_residual-in_err-known_kind.ensures.1
    (walk_on number_of _ c.in_ok-ranged.ensures (walk_on number_of _ c.in_ok-ranged-2.ensures (walk_on number_of _ c.in_ok-ranged-3.ensures (walk_on number_of _ c.in_ok-ranged-4.ensures (walk_on letter_of _ c.in_ok-kind_letter.ensures (walk_off number_of _ spread))))))

pub returns-in_err-ranged-5 : goal.returns-in_err-ranged-5
returns-in_err-ranged-5 c =
    let ps = c.args.fields.now in
    let named = meant ps 5 kind_in letter_of _ c.in_ok-kind_letter.ensures in
    let spread = subst (λ l. Says ps 6 (spread_in l) (spread_of c.in_ok-known_kind.field-0)) named c.in_ok-known_kind.ensures.spread in
    item_refused ps _ _ (omega arith) c.from_residual-in_err-ranged-5.ensures.1
    (walk_on number_of _ c.in_ok-ranged.ensures (walk_on number_of _ c.in_ok-ranged-2.ensures (walk_on number_of _ c.in_ok-ranged-3.ensures (walk_on number_of _ c.in_ok-ranged-4.ensures (walk_on letter_of _ c.in_ok-kind_letter.ensures (walk_on number_of _ spread (walk_off number_of _ c.in_err-ranged-5.ensures)))))))

pub returns : goal.returns
returns c =
    let ps = c.args.fields.now in
    let named = meant ps 5 kind_in letter_of _ c.in_ok-kind_letter.ensures in
    let spread = subst (λ l. Says ps 6 (spread_in l) (spread_of c.in_ok-known_kind.field-0)) named c.in_ok-known_kind.ensures.spread in
    let e1 = meant ps 1 item_number_in number_of _ c.in_ok-ranged.ensures in
    let e2 = meant ps 2 class_in number_of _ c.in_ok-ranged-2.ensures in
    let e3 = meant ps 3 characteristic_in number_of _ c.in_ok-ranged-3.ensures in
    let e4 = meant ps 4 value_in number_of _ c.in_ok-ranged-4.ensures in
    let e5 = c.in_ok-known_kind.ensures.letter ∙ named in
    let e6 = meant ps 6 (spread_in _) number_of _ spread in
    let e7 = meant ps 7 bias_in number_of _ c.in_ok-ranged-5.ensures in
    let f1 : SFits w64 c.in_ok-ranged.field-0 = search rules in
    let f2 : SFits w64 c.in_ok-ranged-2.field-0 = search rules in
    let f3 : SFits w64 c.in_ok-ranged-3.field-0 = search rules in
    let f4 : SFits w64 c.in_ok-ranged-4.field-0 = search rules in
    let f7 : SFits w64 c.in_ok-ranged-5.field-0 = search rules in
    simp to_z-of_z (item_answered ps _ (omega arith) (walk_on number_of _ c.in_ok-ranged.ensures (walk_on number_of _ c.in_ok-ranged-2.ensures (walk_on number_of _ c.in_ok-ranged-3.ensures (walk_on number_of _ c.in_ok-ranged-4.ensures (walk_on letter_of _ c.in_ok-kind_letter.ensures (walk_on number_of _ spread (walk_on number_of _ c.in_ok-ranged-5.ensures (arrive (λ i. record { item_number = e1 i; item_class = e2 i; item_characteristic = e3 i; item_reading = e4 i; kind_letter = e5 i; kind_spread = e6 i; item_bias = e7 i }))))))))))
