use Rattle.std.proofs.Common.{◌≡◌, ℤ, nat_abs, Some, Ok, Err, Result, sym, ap, ◌∙◌, subst, refl, w64, SFits, to_z, of_z, rules}
use Rattle.std.specs.Result.{result_ok}
use Rattle.std.proofs.lemmas.Int.{to_z-of_z}
use Rattle.faults.proofs.Checks.{its_value}
use Rattle.faults.specs.Faults.{AnswersBy}
use Rattle.faults.specs.declared.Fault.{Fault}
use Rattle.lot.specs.Book.{tally_refusal}
use Rattle.lot.specs.declared.items.Row.{Row}
use Rattle.lot_calls.specs.Lots.{items, class_row}
use Rattle.report.proofs.Classes.{line_or_none}
use Rattle.report.proofs.answers.class_line.Goals as goal

tallied : (Q : Row → Type 0) (z : ℤ) (r : Result Row Fault) (row : Row) → result_ok r ≡ Some row → AnswersBy (tally_refusal z) r Q → Q row
tallied Q z (Ok x) row e told = let same : x ≡ row = cc in subst Q same (its_value Q (tally_refusal z) x told)
tallied Q z (Err f) row e told = absurd (cc)

pub returns : goal.returns
returns c =
    let l = c.args.lot.now in
    let z : ℤ = to_z w64 (of_z w64 c.from.result) in
    let f : SFits w64 c.from.result = search rules in
    let same : z ≡ c.from.result = simp to_z-of_z refl in
    let row = c.in_ok-row.row in
    let stands : result_ok c.tally.result ≡ Some row = sym c.ok.ensures.value ∙ c.in_ok-row.was in
    let told = tallied (λ (r : Row). r ≡ class_row l (nat_abs z)) z c.tally.result row stands c.tally.ensures.outcome in
    c.then_some.ensures ∙ line_or_none (items l) c.args.class row (told ∙ ap (λ k. class_row l (nat_abs k)) (same ∙ c.from.ensures)) c.is_empty.result c.is_empty.ensures
