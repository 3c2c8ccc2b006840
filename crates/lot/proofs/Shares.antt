-- Rows by class, when an item is put in or taken out: the row of its class gains or loses its share, and no other row changes.
use Rattle.std.proofs.Common.{◌≡◌, ℕ, zero, suc, ◌+◌, ◌-◌, ◌*◌, ◌≤◌, Bool, true, false, cond, ◌&&◌, T, eqb, leb, List, [], ◌∷◌, length, get_or, set, Some, sym, refl, ap, ◌∙◌, subst, ⊎_elim, add-mul, arith}
use Rattle.std.specs.List.{slice_get, insert, remove}
use Rattle.std.proofs.lemmas.List.{length-set, get_or-set_same, get_or-set_other}
use Rattle.std.proofs.lemmas.List.Sums.{sum_by-cons, sum_by-insert, sum_by-remove}
use Rattle.std.proofs.lemmas.Bool.{and_parts, leb-true, eq-eqb, ne_eqb, cond-true, cond-false, cases_eq}
use Rattle.judging.specs.declared.answers.Judgement.{Judgement}
use Rattle.std.proofs.lemmas.Option.{slice_get_within, get_or_from_slice_get}
use Rattle.lot.specs.Rows.{share_of, plus, minus, summed, row_of, of_a_class, Classed, Tallied}
use Rattle.lot.specs.declared.items.Item.{Item}
use Rattle.lot.specs.declared.items.Row.{Row}

-- there are nine rows, and they are those of the classes 1 to 9
abbrev pub NineTallied : List Item → List Row → Type 0
NineTallied items rows = (length rows ≡ 9) × Tallied items rows

module _ (c : ℕ) (e : Item) where
  -- what an item adds to a part of the row of class c
  abbrev adds : (Row → ℕ) → Item → ℕ
  adds part x = cond (eqb x.class c) (part (share_of x.judgement)) 0

  mine : (part : Row → ℕ) (n : ℕ) → e.class ≡ c → adds part e + n ≡ n + part (share_of e.judgement)
  mine part n same = omega (arith, cond-true (eqb e.class c) (part (share_of e.judgement)) 0 (eq-eqb e.class c same))

  not_mine : (part : Row → ℕ) (n : ℕ) → (e.class ≡ c → ⊥) → adds part e + n ≡ n
  not_mine part n other = omega (arith, cond-false (eqb e.class c) (part (share_of e.judgement)) 0 (ne_eqb e.class c other))

  module _ (xs ys : List Item) (sums : (part : Row → ℕ) → summed part c ys ≡ adds part e + summed part c xs) where
    same_class : e.class ≡ c → row_of c ys ≡ plus (row_of c xs) (share_of e.judgement)
    same_class same =
        let step : (part : Row → ℕ) → summed part c ys ≡ summed part c xs + part (share_of e.judgement) = λ part. sums part ∙ mine part (summed part c xs) same in
        cc (step (λ r. r.passes), step (λ r. r.conditional_passes), step (λ r. r.conditional_fails), step (λ r. r.fails), step (λ r. r.lesser), step (λ r. r.greater))

    other_class : (e.class ≡ c → ⊥) → row_of c ys ≡ row_of c xs
    other_class other =
        let step : (part : Row → ℕ) → summed part c ys ≡ summed part c xs = λ part. sums part ∙ not_mine part (summed part c xs) other in
        cc (step (λ r. r.passes), step (λ r. r.conditional_passes), step (λ r. r.conditional_fails), step (λ r. r.fails), step (λ r. r.lesser), step (λ r. r.greater))

-- what is added is what can be taken away again
pub minus_plus : (a s : Row) → minus (plus a s) s ≡ a
minus_plus a s =
    let back : (m n : ℕ) → m + n - n ≡ m = λ m n. omega arith in
    λ i.
    record {
      passes = back a.passes s.passes i;
      conditional_passes = back a.conditional_passes s.conditional_passes i;
      conditional_fails = back a.conditional_fails s.conditional_fails i;
      fails = back a.fails s.fails i;
      lesser = back a.lesser s.lesser i;
      greater = back a.greater s.greater i;
    }

pub true_from : (b : Bool) → T b → b ≡ true
true_from true t = refl
true_from false t = absurd t

cond_most : (b : Bool) (n most : ℕ) → n ≤ most → cond b n 0 ≤ most
cond_most true n most h = h
cond_most false n most h = omega arith

-- an item's class is from 1 to 9
pub class_from : (e : Item) → T (of_a_class e) → (1 ≤ e.class) × (e.class ≤ 9)
class_from e t =
    let parts = and_parts (leb 1 e.class) (leb e.class 9) (true_from (of_a_class e) t) in
    (leb-true 1 e.class parts.0, leb-true e.class 9 parts.1)

module _ (e : Item) (rows : List Row) (classed : T (of_a_class e)) where
  -- one row set: the row of class e is new, the others are as before
  tallied_set : (xs ys : List Item) (new : Row) → NineTallied xs rows → new ≡ row_of e.class ys → ((c : ℕ) → (e.class ≡ c → ⊥) → row_of c ys ≡ row_of c xs) → NineTallied ys (set rows (e.class - 1) new)
  tallied_set xs ys new tallied is others =
      let range = class_from e classed in
      let nine = tallied.0 in (
        length-set rows (e.class - 1) new ∙ nine,
        λ c d within.
            ⊎_elim
            (λ (here : c ≡ e.class - 1).
            let its : c + 1 ≡ e.class = omega (arith, range.0) in
            ap (λ k. get_or (set rows (e.class - 1) new) k d) here ∙ get_or-set_same rows (e.class - 1) new d (omega (arith, range.1)) ∙ is ∙ ap (λ k. row_of k ys) (sym its))
            (λ (there : c ≡ e.class - 1 → ⊥).
            get_or-set_other rows (e.class - 1) c new d there ∙ tallied.1 c d within ∙ sym (others (c + 1) (λ (same : e.class ≡ c + 1). there (omega arith))))
            (cases_eq c (e.class - 1)),
      )

  -- the row of the item's class, as the rows have it
  pub row_at : (xs : List Item) (d : Row) → NineTallied xs rows → get_or rows (e.class - 1) d ≡ row_of e.class xs
  row_at xs d tallied =
      let range = class_from e classed in
      let its : e.class - 1 + 1 ≡ e.class = omega (arith, range.0) in
      tallied.1 (e.class - 1) d (omega (arith, range.1)) ∙ ap (λ k. row_of k xs) its

  pub tallied_inserted : (xs : List Item) (i : ℕ) (d : Row) → NineTallied xs rows → NineTallied (insert xs i e) (set rows (e.class - 1) (plus (get_or rows (e.class - 1) d) (share_of e.judgement)))
  tallied_inserted xs i d tallied =
      let sums : (c : ℕ) (part : Row → ℕ) → summed part c (insert xs i e) ≡ cond (eqb e.class c) (part (share_of e.judgement)) 0 + summed part c xs =
      λ c part. omega (arith, sum_by-insert (λ x. cond (eqb x.class c) (part (share_of x.judgement)) 0) xs i e) in
      tallied_set xs (insert xs i e) (plus (get_or rows (e.class - 1) d) (share_of e.judgement)) tallied
      (ap (λ r. plus r (share_of e.judgement)) (row_at xs d tallied) ∙ sym (same_class e.class e xs (insert xs i e) (sums e.class) refl))
      (λ c other. other_class c e xs (insert xs i e) (sums c) other)

  module _ (xs : List Item) (i : ℕ) (at : slice_get xs i ≡ Some e) where
    removed_sums : (c : ℕ) (part : Row → ℕ) → summed part c xs ≡ cond (eqb e.class c) (part (share_of e.judgement)) 0 + summed part c (remove xs i)
    removed_sums c part =
        let f : Item → ℕ = λ x. cond (eqb x.class c) (part (share_of x.judgement)) 0 in
        omega (arith, sum_by-remove f xs i e (slice_get_within xs i e at), ap f (get_or_from_slice_get xs i e e at))

    -- the row of its class holds the share of an item that stands
    pub row_holds : row_of e.class xs ≡ plus (row_of e.class (remove xs i)) (share_of e.judgement)
    row_holds = same_class e.class e (remove xs i) xs (removed_sums e.class) refl

    pub tallied_removed : (d : Row) → NineTallied xs rows → NineTallied (remove xs i) (set rows (e.class - 1) (minus (get_or rows (e.class - 1) d) (share_of e.judgement)))
    tallied_removed d tallied =
        tallied_set xs (remove xs i) (minus (get_or rows (e.class - 1) d) (share_of e.judgement)) tallied
        (ap (λ r. minus r (share_of e.judgement)) (row_at xs d tallied ∙ row_holds) ∙ minus_plus (row_of e.class (remove xs i)) (share_of e.judgement))
        (λ c other. sym (other_class c e (remove xs i) xs (removed_sums c) other))

-- a part of a row is at most what each share has at most, times the number of items
pub summed_at_most : (part : Row → ℕ) (most c : ℕ) → ((j : Judgement) → part (share_of j) ≤ most) → (xs : List Item) → summed part c xs ≤ length xs * most
summed_at_most part most c bound [] = omega arith
summed_at_most part most c bound (x ∷ xs) =
    let rest = summed_at_most part most c bound xs in
    let cons = sum_by-cons (λ e. cond (eqb e.class c) (part (share_of e.judgement)) 0) x xs in
    let one : cond (eqb x.class c) (part (share_of x.judgement)) 0 ≤ most = cond_most (eqb x.class c) _ most (bound x.judgement) in
    omega (arith, add-mul 1 (length xs) most)

-- the items stay in their classes
both : (a b : Bool) → T a → T b → T (a && b)
both true b p q = q
both false b p q = absurd p

apart : (a b : Bool) → T (a && b) → T a × T b
apart true b t = (tt, t)
apart false b t = absurd t

pub classed_inserted : (xs : List Item) (i : ℕ) (e : Item) → T (of_a_class e) → Classed xs → Classed (insert xs i e)
classed_inserted xs zero e t h = both _ _ t h
classed_inserted [] (suc i) e t h = both _ _ t tt
classed_inserted (x ∷ xs) (suc i) e t h = both _ _ (apart _ _ h).0 (classed_inserted xs i e t (apart _ _ h).1)

pub classed_removed : (xs : List Item) (i : ℕ) → Classed xs → Classed (remove xs i)
classed_removed [] zero h = tt
classed_removed [] (suc i) h = tt
classed_removed (x ∷ xs) zero h = (apart _ _ h).1
classed_removed (x ∷ xs) (suc i) h = both _ _ (apart _ _ h).0 (classed_removed xs i (apart _ _ h).1)

pub classed_at : (xs : List Item) (i : ℕ) (e : Item) → slice_get xs i ≡ Some e → Classed xs → T (of_a_class e)
classed_at [] i e at h = absurd (omega (arith, slice_get_within [] i e at))
classed_at (x ∷ xs) zero e at h = subst (λ (w : Item). T (of_a_class w)) (get_or_from_slice_get (x ∷ xs) zero e e at) (apart _ _ h).0
classed_at (x ∷ xs) (suc i) e at h = classed_at xs i e at (apart _ _ h).1
