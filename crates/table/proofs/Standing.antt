-- Keys that stand among entries, by what a search answers.
use Rattle.std.proofs.Common.{◌≡◌, ℕ, ◌+◌, ◌<◌, ◌≤◌, List, [], ◌∷◌, length, get_or, Some, Ok, Err, Option, Result, Ordering, Less, refl, sym, ap, ◌∙◌, subst, ⊎_elim, true≢false, arith}
use Rattle.std.specs.List.{slice_get, remove, HoldsAt}
use Rattle.std.specs.Cmp.{IsTotalOrder, tied_itself}
use Rattle.std.specs.Ordering.{is_lt}
use Rattle.std.specs.List.Sorted.{IsPartitionPoint, IsPermutation}
use Rattle.std.proofs.lemmas.List.Edits.{length-remove, get_or-remove_below, get_or-remove_above}
use Rattle.std.proofs.lemmas.List.{length-map, get_or-map, get_or_default}
use Rattle.std.proofs.lemmas.Option.{slice_get-get_or, slice_get_within, get_or_from_slice_get}
use Rattle.std.proofs.ByRecursion.{has_shuffled}
use Rattle.std.proofs.lemmas.Bool.{cases_lt}
use Rattle.table.specs.declared.Table.{Table}
use Rattle.table.specs.declared.Refused.{Refused}
use Rattle.table.specs.declared.Refused.TheVariants.{Present, Full}
use Rattle.table.specs.Tables.{standing, capacity}
use Rattle.table.specs.Changes.{Allowed, Picked}
use Rattle.table.specs.Keys.{Ascending}
use Rattle.table.specs.Places.{Found, Known, Stands}
use Rattle.table.proofs.Ascents.{ascends}

-- an entry that stands at i
pub nth_at : {E : Type 0} (xs : List E) (i : ℕ) (e : E) → slice_get xs i ≡ Some e → (i < length xs) × (get_or xs i e ≡ e)
nth_at xs i e at = (slice_get_within xs i e at, get_or_from_slice_get xs i e e at)

-- no key is less than itself
pub not_less : {K : Type 0} {compare : K → K → Ordering} → IsTotalOrder compare → (k : K) → compare k k ≡ Less → ⊥
not_less total k less = true≢false (ap is_lt (sym less ∙ tied_itself total k))

module _ {E K : Type 0} (key : E → K) (k : K) where
  -- the key of the entry at i stands
  pub stands_at : (xs : List E) (i : ℕ) → i < length xs → HoldsAt (λ e. key e ≡ k) xs i → Stands key xs k
  stands_at [] i within at = absurd (omega arith)
  stands_at (x ∷ xs) i within at = (i, omega (arith, length-map (x ∷ xs) key), λ d. get_or-map key (x ∷ xs) i x d within ∙ at x)

  -- a key that stands is that of an entry at some place
  pub stands_place : (xs : List E) → Stands key xs k → (i : ℕ) × (i < length xs) × HoldsAt (λ e. key e ≡ k) xs i
  stands_place xs (i, within, at) =
      let within' : i < length xs = omega (arith, length-map xs key) in
      (i, within', λ d. sym (get_or-map key xs i d (key d) within') ∙ at (key d))

  module _ {compare : K → K → Ordering} (total : IsTotalOrder compare) where
    -- between lesser keys and greater ones no entry has the key
    pub stands_not : (xs : List E) (i : ℕ) → IsPartitionPoint (λ e. compare (key e) k ≡ Less) (λ e. compare k (key e) ≡ Less) xs i → Stands key xs k → ⊥
    stands_not [] i parts stands = absurd (omega (arith, stands.1))
    stands_not (x ∷ xs) i parts stands =
        let place = stands_place (x ∷ xs) stands in
        let j = place.0 in
        let same = place.2 x in
        ⊎_elim (λ before. not_less total k (ap (λ w. compare w k) (sym same) ∙ parts.0 j x (omega arith) before))
        (λ after. not_less total k (ap (compare k) (sym same) ∙ parts.1 j x after place.1)) (cases_lt j i)

    -- so a search tells whether the key stands
    pub known_from_found : (xs : List E) (r : Result ℕ ℕ) → Found key compare xs k r → Known key xs k r
    known_from_found xs (Ok i) found = stands_at xs i found.0 found.1
    known_from_found xs (Err i) found = stands_not xs i found.1

  -- the entry at the key's place is the one that a look-up picks
  pub picked_at : (xs : List E) (i : ℕ) (r : Option E) → i < length xs → HoldsAt (λ e. key e ≡ k) xs i → r ≡ slice_get xs i → Picked key xs k r
  picked_at [] i r within at is = absurd (omega arith)
  picked_at (x ∷ xs) i r within at is =
      let P : Option E → Type 0 = Picked key (x ∷ xs) k in
      subst P (sym (is ∙ slice_get-get_or (x ∷ xs) i x within)) ((i, within, λ d. get_or_default (x ∷ xs) i d x within), at x)

  -- the same entries in another order have the same keys
  pub stands_shuffled : (xs ys : List E) → IsPermutation xs ys → Stands key xs k → Stands key ys k
  stands_shuffled [] ys same stands = absurd (omega (arith, stands.1))
  stands_shuffled (x ∷ xs) ys same stands =
      let place = stands_place (x ∷ xs) stands in
      let e = get_or (x ∷ xs) place.0 x in
      let has = has_shuffled (x ∷ xs) ys e same (place.0, place.1, λ d. get_or_default (x ∷ xs) place.0 d x place.1) in
      stands_at ys has.0 has.1 (λ d. ap key (has.2 d) ∙ place.2 x)

module _ {E K : Type 0} (key : E → K) {compare : K → K → Ordering} (total : IsTotalOrder compare) (xs : List E) (up : Ascending key compare xs) where
  -- where keys ascend, a key has one place
  pub one_place : (i j : ℕ) (d : E) → i < length xs → j < length xs → key (get_or xs i d) ≡ key (get_or xs j d) → i ≡ j
  one_place i j d in-i in-j same =
      ⊎_elim (λ before. absurd (not_less total (key (get_or xs j d)) (ap (λ w. compare w (key (get_or xs j d))) (sym same) ∙ ascends key compare xs i j d up before in-j)))
      (λ not-before. ⊎_elim (λ after. absurd (not_less total (key (get_or xs i d)) (ap (λ w. compare w (key (get_or xs i d))) same ∙ ascends key compare xs j i d up after in-i)))
      (λ not_after. omega arith) (cases_lt j i))
      (cases_lt i j)

  -- so with its entry the key is gone
  pub stands_removed : (i : ℕ) (e : E) → slice_get xs i ≡ Some e → Stands key (remove xs i) (key e) → ⊥
  stands_removed i e at stands =
      let place = stands_place key (key e) (remove xs i) stands in
      let j = place.0 in
      let within = slice_get_within xs i e at in
      let size = length-remove xs i within in
      let same = ap key (get_or_from_slice_get xs i e e at) in
      ⊎_elim
      (λ before. let one = one_place j i e (omega arith) within (ap key (sym (get_or-remove_below xs i e j before within)) ∙ place.2 e ∙ sym same) in omega arith)
      (λ after. let one = one_place (j + 1) i e (omega arith) within (ap key (sym (get_or-remove_above xs i e j after within)) ∙ place.2 e ∙ sym same) in omega arith)
      (cases_lt j i)

-- with no place every insertion is refused as full
pub full_without_place : {E K : Type 0} {entry ord eq partial : _} (key : E → K) (t : Table E K entry ord eq partial) (k : K) (r : Result ℕ Refused) → capacity t ≡ 0 → length (standing t) ≤ capacity t → Allowed key t k r → r ≡ Err Full
full_without_place key t k (Ok i) none within allowed = absurd (omega (arith, allowed.1))
full_without_place key t k (Err Present) none within allowed = absurd (omega (arith, allowed.1, length-map (standing t) key))
full_without_place key t k (Err Full) none within allowed = refl
