-- Keys in order.
use Rattle.std.specs.Prelude.{◌≡◌, ℕ, ◌≤◌, min, List, length, map, take}
use Rattle.std.specs.Coded.{×_prop, le_prop}
use Rattle.std.specs.declared.cmp.Ordering.TheVariants.{Equal}
use Rattle.std.specs.declared.cmp.Ordering.{Ordering}
use Rattle.std.specs.List.Sorted.{IsStrictlySortedBy, IsStrictlySortedBy-prop}

-- only a key itself compares as equal
abbrev pub Exact : {K : Type 0} → (K → K → Ordering) → Type 0
Exact {K} compare = (a b : K) → compare a b ≡ Equal → a ≡ b

-- strictly ascending: the key of each entry is less than the key of every later one
abbrev pub Ascending : {E K : Type 0} → (E → K) → (K → K → Ordering) → List E → Type 0
Ascending key compare xs = IsStrictlySortedBy compare (map key xs)

-- a list in order, of which the first `count` entries stand: no more than may, and their keys strictly ascend
abbrev pub Ordered : {E K : Type 0} → (E → K) → (K → K → Ordering) → ℕ → ℕ → List E → Type 0
Ordered key compare limit count places = (length (take count places) ≤ min limit (length places)) × Ascending key compare (take count places)

-- a list is in order in one way only, as a field of a table must be
pub Ordered-prop : {E K : Type 0} (key : E → K) (compare : K → K → Ordering) (limit count : ℕ) (places : List E) → IsProp (Ordered key compare limit count places)
Ordered-prop key compare limit count places = ×_prop le_prop (IsStrictlySortedBy-prop compare (map key (take count places)))
