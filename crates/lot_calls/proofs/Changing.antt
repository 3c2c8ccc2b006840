-- A lot when an item is put in or taken out: what the table's answer says, and that rows keep to the items.
use Rattle.std.proofs.Common.{◌≡◌, ℕ, ◌-◌, ◌≤◌, Bool, true, false, not, T, List, map, length, get_or, drop, set, pos, Some, None, Ok, Err, Result, sym, ◌∙◌, subst, mul-le-mul_right, arith}
use Rattle.std.specs.List.{slice_get, insert, remove}
use Rattle.std.proofs.lemmas.List.{length-map}
use Rattle.std.proofs.lemmas.Bool.{true≢false, not-true, ltb-true}
use Rattle.faults.specs.declared.Refusal.TheVariants.{DuplicateItem, LotFull}
use Rattle.faults.proofs.Checks.{check_passed}
use Rattle.knowledge.specs.Millionths.{million}
use Rattle.judging.specs.declared.answers.Verdict.{Verdict}
use Rattle.judging.specs.declared.answers.Verdict.TheVariants.{Pass, ConditionalPass, ConditionalFail, Fail}
use Rattle.judging.specs.declared.answers.Judgement.{Judgement}
use Rattle.table.specs.declared.Table.{Table}
use Rattle.table.specs.declared.Refused.{Refused}
use Rattle.table.specs.declared.Refused.TheVariants.{Present, Full}
use Rattle.table.specs.Tables.{standing, beyond, capacity}
use Rattle.table.specs.Changes.{Allowed, Insertion}
use Rattle.lot.specs.Book.{room_refusal, stands}
use Rattle.lot.specs.Rows.{on_pass, on_conditional_pass, on_conditional_fail, on_fail, share_of, plus, minus, row_of, of_a_class}
use Rattle.lot.specs.declared.items.Item.{Item}
use Rattle.lot.specs.declared.items.Row.{Row}
use Rattle.lot.proofs.Noted.{stands_has}
use Rattle.lot.proofs.Refusals.{check_later}
use Rattle.lot.proofs.Shares.{NineTallied, summed_at_most, row_at, row_holds, tallied_inserted, tallied_removed}
use Rattle.lot_calls.specs.Sizes.{RowOfAtMost, Contains}

abbrev its_number : Item → ℕ
its_number e = e.number

-- where there is room, the table grants the place
module _ {entry ord eq partial : _} (t t' : Table Item ℕ entry ord eq partial) (e : Item) (free : room_refusal (map its_number (standing t)) (capacity t) (pos e.number) ≡ None) where
  abbrev stood : Bool
  stood = stands (map its_number (standing t)) e.number

  abbrev Granted : Type 0
  Granted = (i : ℕ) × (i ≤ length (standing t)) × (standing t' ≡ insert (standing t) i e) × (beyond t' ≡ drop 1 (beyond t))

  pub granted : (r : Result ℕ Refused) → Allowed its_number t e.number r → Insertion t e r t' → Granted
  granted (Ok i) allowed change = (i, change.0, change.1, change.2)
  granted (Err Present) allowed change =
      let absent = not-true stood (check_passed (not stood) DuplicateItem _ free) in
      absurd (true≢false (sym (stands_has (map its_number (standing t)) e.number allowed) ∙ absent))
  granted (Err Full) allowed change =
      let left = ltb-true (length (map its_number (standing t))) (capacity t) (check_passed _ LotFull None (check_later (not stood) DuplicateItem _ free)) in
      absurd (omega (arith, allowed.1, length-map (standing t) its_number))

-- how great a share is, and a row
pass_few : (v : Verdict) (n : ℕ) → on_pass v n ≤ n
pass_few Pass n = omega arith
pass_few ConditionalPass n = omega arith
pass_few ConditionalFail n = omega arith
pass_few Fail n = omega arith

conditional_pass_few : (v : Verdict) (n : ℕ) → on_conditional_pass v n ≤ n
conditional_pass_few Pass n = omega arith
conditional_pass_few ConditionalPass n = omega arith
conditional_pass_few ConditionalFail n = omega arith
conditional_pass_few Fail n = omega arith

conditional_fail_few : (v : Verdict) (n : ℕ) → on_conditional_fail v n ≤ n
conditional_fail_few Pass n = omega arith
conditional_fail_few ConditionalPass n = omega arith
conditional_fail_few ConditionalFail n = omega arith
conditional_fail_few Fail n = omega arith

fail_few : (v : Verdict) (n : ℕ) → on_fail v n ≤ n
fail_few Pass n = omega arith
fail_few ConditionalPass n = omega arith
fail_few ConditionalFail n = omega arith
fail_few Fail n = omega arith

pub share_few : (j : Judgement) → RowOfAtMost 1 (share_of j)
share_few j =
    record {
      passes_few = pass_few j.verdict 1;
      conditional_passes_few = conditional_pass_few j.verdict 1;
      conditional_fails_few = conditional_fail_few j.verdict 1;
      fails_few = fail_few j.verdict 1;
      lesser_few = omega (arith, pass_few j.verdict (million - j.bracket.ceiling));
      greater_few = omega (arith, pass_few j.verdict (million - j.bracket.floor));
    }

pub row_few : (xs : List Item) (c n : ℕ) → length xs ≤ n → RowOfAtMost n (row_of c xs)
row_few xs c n few =
    record {
      passes_few = omega (arith, summed_at_most (λ r. r.passes) 1 c (λ j. (share_few j).passes_few) xs);
      conditional_passes_few = omega (arith, summed_at_most (λ r. r.conditional_passes) 1 c (λ j. (share_few j).conditional_passes_few) xs);
      conditional_fails_few = omega (arith, summed_at_most (λ r. r.conditional_fails) 1 c (λ j. (share_few j).conditional_fails_few) xs);
      fails_few = omega (arith, summed_at_most (λ r. r.fails) 1 c (λ j. (share_few j).fails_few) xs);
      lesser_few = omega (arith, summed_at_most (λ r. r.lesser) million c (λ j. omega (arith, (share_few j).lesser_few)) xs, mul-le-mul_right million few);
      greater_few = omega (arith, summed_at_most (λ r. r.greater) million c (λ j. omega (arith, (share_few j).greater_few)) xs, mul-le-mul_right million few);
    }

-- a row holds what was added to it
pub contains_added : (a s : Row) → Contains (plus a s) s
contains_added a s =
    record { passes_in = omega arith; conditional_passes_in = omega arith; conditional_fails_in = omega arith; fails_in = omega arith; lesser_in = omega arith; greater_in = omega arith }

true_test : (b : Bool) → b ≡ true → T b
true_test true h = tt
true_test false h = absurd (true≢false (sym h))

pub its_class : (e : Item) → of_a_class e ≡ true → T (of_a_class e)
its_class e h = true_test (of_a_class e) h

-- the row of an item's class holds its share
pub contains_share : (e : Item) (rows : List Row) (classed : T (of_a_class e)) (xs : List Item) (i : ℕ) (d : Row) → slice_get xs i ≡ Some e → NineTallied xs rows
    → Contains (get_or rows (e.class - 1) d) (share_of e.judgement)
contains_share e rows classed xs i d at tallied =
    subst (λ (r : Row). Contains r (share_of e.judgement)) (sym (row_at e rows classed xs d tallied ∙ row_holds e rows classed xs i at))
    (contains_added (row_of e.class (remove xs i)) (share_of e.judgement))

-- the rows as the code sets them: k is the item's class, `share` its share, and `row` the new row of its class
module _ (e : Item) (rows : List Row) (classed : T (of_a_class e)) (xs ys : List Item) (i k : ℕ) (share row d : Row) (is_class : k ≡ e.class) (is_share : share ≡ share_of e.judgement) where
  pub tallied_put : row ≡ plus (get_or rows (k - 1) d) share → ys ≡ insert xs i e → NineTallied xs rows → NineTallied ys (set rows (k - 1) row)
  tallied_put is_row are tallied =
      let same : set rows (k - 1) row ≡ set rows (e.class - 1) (plus (get_or rows (e.class - 1) d) (share_of e.judgement)) = cc (is_class, is_share, is_row) in
      let there : NineTallied (insert xs i e) (set rows (k - 1) row) = subst (NineTallied (insert xs i e)) (sym same) (tallied_inserted e rows classed xs i d tallied) in
      subst (λ (zs : List Item). NineTallied zs (set rows (k - 1) row)) (sym are) there

  pub tallied_taken : slice_get xs i ≡ Some e → row ≡ minus (get_or rows (k - 1) d) share → ys ≡ remove xs i → NineTallied xs rows → NineTallied ys (set rows (k - 1) row)
  tallied_taken at is_row are tallied =
      let same : set rows (k - 1) row ≡ set rows (e.class - 1) (minus (get_or rows (e.class - 1) d) (share_of e.judgement)) = cc (is_class, is_share, is_row) in
      let there : NineTallied (remove xs i) (set rows (k - 1) row) = subst (NineTallied (remove xs i)) (sym same) (tallied_removed e rows classed xs i at d tallied) in
      subst (λ (zs : List Item). NineTallied zs (set rows (k - 1) row)) (sym are) there
