-- What stands, whatever the order: the same requirement under each key, the same numbers and the same rows.
use Rattle.std.proofs.Common.{◌≡◌, ℕ, zero, suc, ◌+◌, Bool, true, false, cond, ◌&&◌, ◌||◌, eqb, List, [], ◌∷◌, map, is_some, Some, Option, sym, refl, ap, ◌∙◌, arith}
use Rattle.std.specs.List.{insert}
use Rattle.std.proofs.lemmas.List.Sums.{sum_by-cons, sum_by-insert}
use Rattle.std.proofs.lemmas.Bool.{true≢false, and_parts, and_from, eqb-true, eq-eqb}
use Rattle.requirement.specs.declared.requirements.Requirement.{Requirement}
use Rattle.sheet.specs.Sheets.{lookup}
use Rattle.lot.specs.Book.{stands}
use Rattle.lot.specs.Rows.{share_of, summed, row_of}
use Rattle.lot.specs.declared.items.Item.{Item}
use Rattle.lot.specs.declared.items.Row.{Row}

-- two alternatives of which one at most holds, the other way round
swap : {X : Type 0} (a b : Bool) (u v w : X) → (a ≡ true → b ≡ true → ⊥) → cond b u (cond a v w) ≡ cond a v (cond b u w)
swap true true u v w apart = absurd (apart refl refl)
swap true false u v w apart = refl
swap false true u v w apart = refl
swap false false u v w apart = refl

or_swap : (a b c : Bool) → (a || (b || c)) ≡ (b || (a || c))
or_swap true true c = refl
or_swap true false c = refl
or_swap false true c = refl
or_swap false false c = refl

module _ (q : Requirement) where
  abbrev matches : Requirement → ℕ → ℕ → Bool
  matches x c h = eqb x.class c && eqb x.characteristic h

  -- two requirements under one key have the same key
  alike : (x : Requirement) (c h : ℕ) → matches q c h ≡ true → matches x c h ≡ true → matches x q.class q.characteristic ≡ true
  alike x c h mine its =
      let a = and_parts (eqb q.class c) (eqb q.characteristic h) mine in
      let b = and_parts (eqb x.class c) (eqb x.characteristic h) its in
      and_from (eqb x.class q.class) (eqb x.characteristic q.characteristic)
      (eq-eqb x.class q.class (eqb-true x.class c b.0 ∙ sym (eqb-true q.class c a.0)))
      (eq-eqb x.characteristic q.characteristic (eqb-true x.characteristic h b.1 ∙ sym (eqb-true q.characteristic h a.1)))

  none_first : (b : Bool) (x : Requirement) (o : Option Requirement) → is_some (cond b (Some x) o) ≡ false → (b ≡ true → ⊥) × (is_some o ≡ false)
  none_first true x o h = absurd (true≢false h)
  none_first false x o h = ((λ e. true≢false (sym e)), h)

  -- wherever a requirement with a new key is put, it is found as if it came first
  pub lookup_inserted : (xs : List Requirement) (i c h : ℕ) → is_some (lookup xs q.class q.characteristic) ≡ false → lookup (insert xs i q) c h ≡ lookup (q ∷ xs) c h
  lookup_inserted xs zero c h new = refl
  lookup_inserted [] (suc i) c h new = refl
  lookup_inserted (x ∷ xs) (suc i) c h new =
      let apart = none_first (matches x q.class q.characteristic) x (lookup xs q.class q.characteristic) new in
      ap (λ o. cond (matches x c h) (Some x) o) (lookup_inserted xs i c h apart.1)
      ∙ swap (matches q c h) (matches x c h) (Some x) (Some q) (lookup xs c h) (λ mine its. apart.0 (alike x c h mine its))

-- wherever an item is put, its number stands, and the rows are the same
pub stands_inserted : (xs : List Item) (i : ℕ) (e : Item) (k : ℕ) → stands (map (λ x. x.number) (insert xs i e)) k ≡ stands (map (λ x. x.number) (e ∷ xs)) k
stands_inserted xs zero e k = refl
stands_inserted [] (suc i) e k = refl
stands_inserted (x ∷ xs) (suc i) e k =
    ap (λ b. eqb x.number k || b) (stands_inserted xs i e k) ∙ or_swap (eqb x.number k) (eqb e.number k) (stands (map (λ x. x.number) xs) k)

pub row_inserted : (c : ℕ) (xs : List Item) (i : ℕ) (e : Item) → row_of c (insert xs i e) ≡ row_of c (e ∷ xs)
row_inserted c xs i e =
    let step : (part : Row → ℕ) → summed part c (insert xs i e) ≡ summed part c (e ∷ xs) =
    λ part. let f : Item → ℕ = λ x. cond (eqb x.class c) (part (share_of x.judgement)) 0 in omega (arith, sum_by-insert f xs i e, sum_by-cons f e xs) in
    cc (step (λ r. r.passes), step (λ r. r.conditional_passes), step (λ r. r.conditional_fails), step (λ r. r.fails), step (λ r. r.lesser), step (λ r. r.greater))

-- one more item before others of the same rows
pub row_more : (c : ℕ) (e : Item) (xs ys : List Item) → row_of c xs ≡ row_of c ys → row_of c (e ∷ xs) ≡ row_of c (e ∷ ys)
row_more c e xs ys same =
    let step : (part : Row → ℕ) → summed part c xs ≡ summed part c ys → summed part c (e ∷ xs) ≡ summed part c (e ∷ ys) =
    λ part p. sum_by-cons (λ x. cond (eqb x.class c) (part (share_of x.judgement)) 0) e xs ∙ ap (λ n. cond (eqb e.class c) (part (share_of e.judgement)) 0 + n) p
    ∙ sym (sum_by-cons (λ x. cond (eqb x.class c) (part (share_of x.judgement)) 0) e ys) in
    cc (
      step (λ r. r.passes) (ap (λ r. r.passes) same),
      step (λ r. r.conditional_passes) (ap (λ r. r.conditional_passes) same),
      step (λ r. r.conditional_fails) (ap (λ r. r.conditional_fails) same),
      step (λ r. r.fails) (ap (λ r. r.fails) same),
      step (λ r. r.lesser) (ap (λ r. r.lesser) same),
      step (λ r. r.greater) (ap (λ r. r.greater) same),
    )
