-- Lists of entries whose keys strictly ascend.
use Rattle.std.proofs.Common.{◌≡◌, ℕ, suc, ◌+◌, ◌-◌, ◌<◌, ◌≤◌, List, [], ◌∷◌, map, length, get_or, Ordering, Less, ap, ◌∙◌, arith}
use Rattle.std.specs.List.{insert, remove, AllWithin, AllByRecursion}
use Rattle.std.specs.List.Sorted.{IsStrictlySortedBy}
use Rattle.std.proofs.lemmas.List.Edits.{length-insert, get_or-insert_below, get_or-insert_at, get_or-insert_above, length-remove, get_or-remove_below, get_or-remove_above}
use Rattle.std.proofs.lemmas.Map.Keys.{Less-from_sorted}
use Rattle.std.proofs.lemmas.List.{length-map, get_or-map}
use Rattle.table.specs.Keys.{Ascending}

module _ {E K : Type 0} (key : E → K) (compare : K → K → Ordering) where
  -- an earlier entry has the lesser key
  pub ascends : (xs : List E) (i j : ℕ) (d : E) → Ascending key compare xs → i < j → j < length xs → compare (key (get_or xs i d)) (key (get_or xs j d)) ≡ Less
  ascends xs i j d up before within =
      let less = Less-from_sorted compare (map key xs) i j (key d) up before (omega (arith, length-map xs key)) in
      let first : i < length xs = omega arith in
      simp (get_or-map key xs i d (key d) first, get_or-map key xs j d (key d) within) at less

  all_above : (k : K) (xs : List E) → ((j : ℕ) (d : E) → j < length xs → compare k (key (get_or xs j d)) ≡ Less) → AllByRecursion (λ y. compare k y ≡ Less) (map key xs)
  all_above k [] above = tt
  all_above k (x ∷ xs) above = (above 0 x (omega arith), all_above k xs (λ j d h. above (suc j) d (omega arith)))

  -- and so they ascend where each earlier one has the lesser key
  pub ascending_from_places : (xs : List E) → ((i j : ℕ) (d : E) → i < j → j < length xs → compare (key (get_or xs i d)) (key (get_or xs j d)) ≡ Less) → Ascending key compare xs
  unfolding IsStrictlySortedBy
  ascending_from_places [] less = tt
  ascending_from_places (x ∷ xs) less = (
    all_above (key x) xs (λ j d h. less 0 (suc j) d (omega arith) (omega arith)),
    ascending_from_places xs (λ i j d h within. less (suc i) (suc j) d (omega arith) (omega arith)),
  )

  -- an entry between lesser and greater ones keeps the order
  pub ascending_inserted : (xs : List E) (p : ℕ) (e : E) → p ≤ length xs → Ascending key compare xs → AllWithin (λ x. compare (key x) (key e) ≡ Less) xs 0 p → AllWithin (λ x. compare (key e) (key x) ≡ Less) xs p (length xs) → Ascending key compare (insert xs p e)
  ascending_inserted xs p e within up lesser greater =
      ascending_from_places (insert xs p e) (λ i j d before end.
      let size = length-insert xs p e within in
      let below : (k : ℕ) → k < p → get_or (insert xs p e) k d ≡ get_or xs k d = λ k h. get_or-insert_below xs p e d k h within in
      let here : (k : ℕ) → k ≡ p → get_or (insert xs p e) k d ≡ e = λ k h. ap (λ (n : ℕ). get_or (insert xs p e) n d) h ∙ get_or-insert_at xs p e d within in
      let above : (k : ℕ) → p < k → get_or (insert xs p e) k d ≡ get_or xs (k - 1) d =
      λ k h. let one : k ≡ k - 1 + 1 = omega arith in
      ap (λ (n : ℕ). get_or (insert xs p e) n d) one ∙ get_or-insert_above xs p e d (k - 1) (omega arith) within in
      grind (arith, below i, below j, here i, here j, above i, above j, ascends xs i j d up, ascends xs i (j - 1) d up, ascends xs (i - 1) (j - 1) d up, lesser i d, greater (j - 1) d))

  -- and so does the list without one of its entries
  pub ascending_removed : (xs : List E) (p : ℕ) → p < length xs → Ascending key compare xs → Ascending key compare (remove xs p)
  ascending_removed xs p within up =
      ascending_from_places (remove xs p) (λ i j d before end.
      let size = length-remove xs p within in
      let below : (k : ℕ) → k < p → get_or (remove xs p) k d ≡ get_or xs k d = λ k h. get_or-remove_below xs p d k h within in
      let above : (k : ℕ) → p ≤ k → get_or (remove xs p) k d ≡ get_or xs (k + 1) d = λ k h. get_or-remove_above xs p d k h within in
      grind (arith, below i, below j, above i, above j, ascends xs i j d up, ascends xs i (j + 1) d up, ascends xs (i + 1) (j + 1) d up))
