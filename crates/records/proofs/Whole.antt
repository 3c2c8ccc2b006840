-- The rows of a record that has as many fields as it should.
use Rattle.std.proofs.Common.{◌≡◌, ℕ, suc, List, length, get_or, ℤ, Ok, Err, Result, sym, ap, ◌∙◌, subst, IsErrAnd}
use Rattle.std.proofs.lemmas.Result.{err_from_is_err_and}
use Rattle.faults.specs.declared.Fault.{Fault}
use Rattle.text.specs.declared.field.Placed.{Placed}
use Rattle.fields.specs.Answers.{said}
use Rattle.fields.specs.Values.{number_of}
use Rattle.requirement.specs.declared.rows.RequirementRow.{RequirementRow}
use Rattle.records.specs.declared.rows.ItemRow.{ItemRow}
use Rattle.records.specs.Tests.{letter_of}
use Rattle.records.specs.Columns.{Column}
use Rattle.records.specs.Cells.{cell, cells, contents, outcome, column_answer}
use Rattle.records.specs.Entries.{requirement_columns, requirement_fault, requirement_of, item_columns, item_fault, ItemMeaning, item_of, item_meant, answer_meant}
use Rattle.records.proofs.Walk.{blank, listed, all_listed, Answered}

-- n fields after the word
abbrev pub after_word : ℕ → List Placed → List Placed
after_word n ps = listed n (λ i. get_or ps (suc i) blank)

module _ (ps : List Placed) where
  abbrev pub requirement_said : RequirementRow
  requirement_said = requirement_of (contents (cells (listed 9 (λ i. get_or ps i blank))))

  pub requirement_answered : (r : Result RequirementRow Fault) → length ps ≡ 9 → Answered requirement_columns (after_word 8 ps) r requirement_said
      → r ≡ outcome (requirement_fault (cells ps)) (requirement_of (contents (cells ps)))
  requirement_answered r e a =
      subst (λ l. r ≡ outcome (requirement_fault (cells l)) (requirement_of (contents (cells l)))) (sym (all_listed 9 ps e)) a.answer

  pub requirement_refused : (r : Result RequirementRow Fault) (f : Fault) → length ps ≡ 9 → IsErrAnd r (λ g. g ≡ f)
      → Answered requirement_columns (after_word 8 ps) (Err f) requirement_said → r ≡ outcome (requirement_fault (cells ps)) (requirement_of (contents (cells ps)))
  requirement_refused r f e q a = let p = err_from_is_err_and r q in p.1 ∙ ap Err p.2 ∙ requirement_answered (Err f) e a

  abbrev pub item_said : ItemMeaning
  item_said = item_of (contents (cells (listed 8 (λ i. get_or ps i blank))))

  abbrev pub columns_said : List Column
  columns_said = item_columns (letter_of (said (get_or ps 5 blank)))

  pub item_answered : (r : Result ItemMeaning Fault) → length ps ≡ 8 → Answered columns_said (after_word 7 ps) r item_said
      → r ≡ outcome (item_fault (cells ps)) (item_of (contents (cells ps)))
  item_answered r e a = subst (λ l. r ≡ outcome (item_fault (cells l)) (item_of (contents (cells l)))) (sym (all_listed 8 ps e)) a.answer

  pub item_refused : (r : Result ItemRow Fault) (f : Fault) → length ps ≡ 8 → IsErrAnd r (λ g. g ≡ f)
      → Answered columns_said (after_word 7 ps) (Err f) item_said → answer_meant item_meant r ≡ outcome (item_fault (cells ps)) (item_of (contents (cells ps)))
  item_refused r f e q a = let p = err_from_is_err_and r q in ap (answer_meant item_meant) (p.1 ∙ ap Err p.2) ∙ item_answered (Err f) e a

  -- the i-th field says x of its spread, or is refused with f
  abbrev pub Says : ℕ → Column → ℤ → Type 0
  Says i k x = Ok x ≡ column_answer (cell (get_or ps i blank)) k number_of

  abbrev pub Refused : ℕ → Column → Fault → Type 0
  Refused i k f = Err f ≡ column_answer (cell (get_or ps i blank)) k number_of
