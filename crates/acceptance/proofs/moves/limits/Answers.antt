use Rattle.std.proofs.Common.{Bool, true, false, Some, None, Err, Option}
use Rattle.std.proofs.lemmas.Result.{err_from_is_err_and}
use Rattle.std.proofs.lemmas.Int.{to_z-of_z}
use Rattle.faults.specs.declared.Refusal.{Refusal}
use Rattle.faults.specs.declared.Fault.{Fault}
use Rattle.faults.specs.Faults.{check, first_of, AnswersBy}
use Rattle.acceptance.proofs.moves.limits.Goals as goal

-- what an earlier check refuses is refused whatever is checked later
refuses : {T : Type 0} (P : T → Type 0) (earlier : Option Refusal) (b : Bool) (e : Refusal) (later : Option Refusal) (f : Fault)
    → AnswersBy (first_of earlier (check b e None)) (Err f) P → AnswersBy (first_of earlier (check b e later)) (Err f) P
refuses P None true e later f a = absurd a
refuses P None false e later f a = a
refuses P (Some x) b e later f a = a

pub returns-in_err-acceptance : goal.returns-in_err-acceptance
returns-in_err-acceptance g c =
    let f = c.ranges.expanded in
    let p = err_from_is_err_and c.from_residual.result c.from_residual.ensures.1 in
    rw (p.1, p.2) (refuses _ _ _ _ _ _ (simp to_z-of_z at c.in_err-acceptance.ensures))
