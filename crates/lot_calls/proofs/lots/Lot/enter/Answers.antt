use Rattle.std.proofs.Common.{Ok, refl, rules}
use Rattle.std.proofs.lemmas.Result.{err_from_is_err_and}
use Rattle.std.proofs.lemmas.Int.{to_z-of_z}
use Rattle.table.specs.Tables.{standing}
use Rattle.lot_calls.proofs.Answering.{fitting}
use Rattle.lot_calls.proofs.Carrying.{entered_carries}
use Rattle.lot_calls.proofs.Outcomes.{no_room, not_judged, entered, passed_fields}
use Rattle.lot_calls.proofs.lots.Lot.enter.Goals as goal

pub returns-in_err-check_fields-clause-run : goal.returns-in_err-check_fields-clause-run
returns-in_err-check_fields-clause-run g c =
    entered_carries c.args.fields.now _ (g.met.K.Knowledge.rules c.args.knowledge.now) c.args.self.now (standing c.args.sheet.now.table) _ c.args.self.now (search rules)

pub returns-in_err-check_room : goal.returns-in_err-check_room
returns-in_err-check_room g c =
    let l = c.args.self.now in
    let f = c.args.fields.now in
    let k = g.K.Knowledge.answers c.args.knowledge.now in
    let rules = g.met.K.Knowledge.rules c.args.knowledge.now in
    let sheet = standing c.args.sheet.now.table in
    let fields = c.in_ok-check_fields.ensures in
    let number = (fitting f (passed_fields f fields)).number_fits in
    let p = err_from_is_err_and c.from_residual-in_err-check_room.result c.from_residual-in_err-check_room.ensures.1 in
    let done = no_room l sheet f k fields _ (simp to_z-of_z at c.in_err-check_room.ensures) in
    rw (p.1, p.2) (record { same = refl; outcome = done; run = entered_carries f k rules l sheet _ l done })

pub returns-in_err-judgement : goal.returns-in_err-judgement
returns-in_err-judgement g c =
    let l = c.args.self.now in
    let f = c.args.fields.now in
    let k = g.K.Knowledge.answers c.args.knowledge.now in
    let rules = g.met.K.Knowledge.rules c.args.knowledge.now in
    let sheet = standing c.args.sheet.now.table in
    let fields = c.in_ok-check_fields.ensures in
    let number = (fitting f (passed_fields f fields)).number_fits in
    let p = err_from_is_err_and c.from_residual-in_err-judgement.result c.from_residual-in_err-judgement.ensures.1 in
    let done = not_judged l sheet f k fields (simp to_z-of_z at c.in_ok-check_room.ensures) _ c.in_err-judgement.ensures in
    rw (p.1, p.2) (record { same = refl; outcome = done; run = entered_carries f k rules l sheet _ l done })

pub returns : goal.returns
returns g c =
    let l = c.args.self.now in
    let f = c.args.fields.now in
    let k = g.K.Knowledge.answers c.args.knowledge.now in
    let rules = g.met.K.Knowledge.rules c.args.knowledge.now in
    let sheet = standing c.args.sheet.now.table in
    let fields = c.in_ok-check_fields.ensures in
    let number = (fitting f (passed_fields f fields)).number_fits in
    let j = c.in_ok-judgement.judgement in
    let l' = c.put_in.new.self in
    let s = c.put_in.ensures in
    let done = entered l sheet f k fields (simp to_z-of_z at c.in_ok-check_room.ensures) j l' c.in_ok-judgement.ensures (rw c.item_of.ensures at s.stands) s.keeps in
    record { same = s.same; outcome = done; run = entered_carries f k rules l sheet (Ok j) l' done }
