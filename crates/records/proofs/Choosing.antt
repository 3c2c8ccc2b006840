-- The answer of a record by its word.
use Rattle.std.proofs.Common.{◌≡◌, ℕ, Bool, true, false, cond, List, Some, None, Err, Option, Result, sym, refl, ap, ◌∙◌, subst}
use Rattle.std.proofs.lemmas.Bool.{true≢false, false≢true}
use Rattle.faults.specs.declared.Fault.{Fault}
use Rattle.text.specs.declared.field.Placed.{Placed}
use Rattle.requirement.specs.declared.rows.RequirementRow.{RequirementRow}
use Rattle.records.specs.Cells.{cells, contents, outcome}
use Rattle.records.specs.Entries.{is_requirement, is_item, requirement_fault, item_fault, requirement_of, ItemMeaning, item_of, a_requirement, an_item, malformed, answer_of, answer_meant}

meant_outcome : {S T : Type 0} (f : S → T) (o : Option Fault) (v : S) → answer_meant f (outcome o v) ≡ outcome o (f v)
meant_outcome f None v = refl
meant_outcome f (Some e) v = refl

module _ {T : Type 0} (r : Result T Fault) (o p q : Option Fault) (v w : T) where
  first_choice : (a b : Bool) → true ≡ a → r ≡ outcome o v → r ≡ outcome (cond a o (cond b p q)) (cond a v w)
  first_choice true b h e = e
  first_choice false b h e = absurd (true≢false h)

  second_choice : (a b : Bool) → false ≡ a → true ≡ b → r ≡ outcome p w → r ≡ outcome (cond a o (cond b p q)) (cond a v w)
  second_choice true b h k e = absurd (false≢true h)
  second_choice false true h k e = e
  second_choice false false h k e = absurd (true≢false k)

module _ (n : ℕ) (ps qs : List Placed) where
  abbrev ws : List (List ℕ)
  ws = contents (cells ps)

  pub by_requirement : true ≡ is_requirement ws → qs ≡ ps → (r : Result RequirementRow Fault)
      → r ≡ outcome (requirement_fault (cells qs)) (requirement_of (contents (cells qs))) → answer_meant a_requirement r ≡ answer_of n (cells ps)
  by_requirement h same r e =
      let o = requirement_fault (cells ps) in
      let m = subst (λ l. r ≡ outcome (requirement_fault (cells l)) (requirement_of (contents (cells l)))) same e in
      first_choice (answer_meant a_requirement r) o (item_fault (cells ps)) (Some (malformed n)) (a_requirement (requirement_of ws)) (an_item (item_of ws))
      (is_requirement ws) (is_item ws) h (ap (answer_meant a_requirement) m ∙ meant_outcome a_requirement o (requirement_of ws))

  pub by_item : false ≡ is_requirement ws → true ≡ is_item ws → qs ≡ ps → (r : Result ItemMeaning Fault)
      → r ≡ outcome (item_fault (cells qs)) (item_of (contents (cells qs))) → answer_meant an_item r ≡ answer_of n (cells ps)
  by_item h k same r e =
      let o = item_fault (cells ps) in
      let m = subst (λ l. r ≡ outcome (item_fault (cells l)) (item_of (contents (cells l)))) same e in
      second_choice (answer_meant an_item r) (requirement_fault (cells ps)) o (Some (malformed n)) (a_requirement (requirement_of ws)) (an_item (item_of ws))
      (is_requirement ws) (is_item ws) h k (ap (answer_meant an_item) m ∙ meant_outcome an_item o (item_of ws))

pub by_neither : (n : ℕ) (ps : List Placed) → false ≡ is_requirement (contents (cells ps)) → false ≡ is_item (contents (cells ps))
    → Err (malformed n) ≡ answer_of n (cells ps)
by_neither n ps h k = rw (sym h, sym k) refl
