use Rattle.std.proofs.Common.{refl, arith}
use Rattle.std.proofs.lemmas.Result.{err_from_is_err_and}
use Rattle.text.proofs.Readings.{handed_out, stopped}
use Rattle.text.proofs.Rows.{unbroken}
use Rattle.text.proofs.reader.Reader.next_record.Goals as goal

pub returns-in_err-walk : goal.returns-in_err-walk
returns-in_err-walk c =
    let p = err_from_is_err_and c.from_residual-in_err-walk.result c.from_residual-in_err-walk.ensures.1 in
    rw (p.1, p.2) (stopped _ _ _ (grind arith) c.in_err-walk.ensures)

-- the record was checked whole
pub returns-in_err-row : goal.returns-in_err-row
returns-in_err-row c = absurd (unbroken _ _ _ _ _ c.in_ok-walk.ensures.2 c.in_err-row.ensures.1)

pub returns : goal.returns
returns c = handed_out _ _ _ _ _ c.in_ok-row.row (grind arith) refl refl refl c.in_ok-row.ensures
