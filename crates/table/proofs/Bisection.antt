-- A bisection keeps lesser keys below its window, and greater ones above.
use Rattle.std.proofs.Common.{◌≡◌, ℕ, ◌+◌, ◌<◌, List, length, get_or, Ordering, Less, Greater, sym, ap, ◌∙◌, subst, ⊎_elim, arith}
use Rattle.std.specs.Cmp.{IsTotalOrder}
use Rattle.std.specs.Ordering.{ordering_reverse}
use Rattle.std.specs.List.{HoldsAt, AllWithin}
use Rattle.std.proofs.lemmas.List.Elements.{at_read}
use Rattle.std.proofs.lemmas.Bool.{cases_lt}
use Rattle.table.specs.Keys.{Ascending}
use Rattle.table.proofs.Ascents.{ascends}

-- the keys below `low` are less than k, and those from `high` on greater
pub record Narrowed {E K : Type 0} (key : E → K) (compare : K → K → Ordering) (xs : List E) (k : K) (low high : ℕ) : Type 0 where
  pub lesser : AllWithin (λ e. compare (key e) k ≡ Less) xs 0 low
  pub greater : AllWithin (λ e. compare k (key e) ≡ Less) xs high (length xs)

module _ {E K : Type 0} (key : E → K) {compare : K → K → Ordering} (total : IsTotalOrder compare) (xs : List E) (up : Ascending key compare xs) (k : K) where
  -- the answer of a comparison with the entry that was read at m
  pub compared : (m : ℕ) (x : E) (q : K) (r : Ordering) → m < length xs → x ≡ get_or xs m x → q ≡ key x → r ≡ compare q k → HoldsAt (λ e. compare (key e) k ≡ r) xs m
  compared m x q r within is named says = at_read xs (λ e. compare (key e) k ≡ r) m x within is (ap (λ w. compare w k) (sym named) ∙ sym says)

  -- a lesser key at m: all up to m are less
  pub narrowed_above : (low high m : ℕ) → m < length xs → HoldsAt (λ e. compare (key e) k ≡ Less) xs m → Narrowed key compare xs k low high → Narrowed key compare xs k (m + 1) high
  narrowed_above low high m within less n =
      record {
        lesser = λ i d _ h.
            ⊎_elim (λ before. total.trans (key (get_or xs i d)) (key (get_or xs m d)) k (ascends key compare xs i m d up before within) (less d))
            (λ same. subst (λ (j : ℕ). compare (key (get_or xs j d)) k ≡ Less) (let e : m ≡ i = omega arith in e) (less d)) (cases_lt i m);
        greater = n.greater;
      }

  -- a greater key at m: all from m on are greater
  pub narrowed_below : (low high m : ℕ) → m < length xs → HoldsAt (λ e. compare (key e) k ≡ Greater) xs m → Narrowed key compare xs k low high → Narrowed key compare xs k low m
  narrowed_below low high m within greater n =
      record {
        lesser = n.lesser;
        greater = λ i d h within'.
            let less : compare k (key (get_or xs m d)) ≡ Less = total.antisymm k (key (get_or xs m d)) ∙ ap ordering_reverse (greater d) in
            ⊎_elim (λ after. total.trans k (key (get_or xs m d)) (key (get_or xs i d)) less (ascends key compare xs m i d up after within'))
            (λ same. subst (λ (j : ℕ). compare k (key (get_or xs j d)) ≡ Less) (let e : m ≡ i = omega arith in e) less) (cases_lt m i);
      }
