use Rattle.std.proofs.Common.{length, sym}
use Rattle.std.proofs.lemmas.Bool.{leb-true, leb-false}
use Rattle.lot_calls.specs.Lots.{items, room}
use Rattle.lot_calls.proofs.Answering.{taken, full, free}
use Rattle.lot_calls.proofs.lots.Lot.check_room.Goals as goal

pub returns-in-Ok : goal.returns-in-Ok
returns-in-Ok c =
    let l = c.args.self.now in
    rw c.direct.ensures (taken (items l) (room l) c.args.number (c.in-Ok.ensures.known))

pub returns-in-Err : goal.returns-in-Err
returns-in-Err c =
    let l = c.args.self.now in
    rw c.direct-in-Err.ensures (full (items l) (room l) c.args.number (c.in-Err.ensures.known) (leb-true (room l) (length (items l)) (sym c.if-is_full.ensures)))

pub returns-in-Err-2 : goal.returns-in-Err-2
returns-in-Err-2 c =
    let l = c.args.self.now in
    free (items l) (room l) c.args.number (c.in-Err-2.ensures.known) (leb-false (room l) (length (items l)) (sym c.if-is_full.ensures))
