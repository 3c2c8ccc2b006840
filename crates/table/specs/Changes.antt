-- Changes: what a call answers, and what the table t holds after it as t'.
use Rattle.std.specs.Prelude.{◌≡◌, ℕ, ◌<◌, ◌≤◌, List, ◌∷◌, length, drop, Some, None, Ok, Err, Option, Result}
use Rattle.std.specs.List.{insert, remove, slice_get, ContainsAt as Has}
use Rattle.table.specs.declared.Table.{Table}
use Rattle.table.specs.declared.Refused.{Refused}
use Rattle.table.specs.declared.Refused.TheVariants.{Present, Full}
use Rattle.table.specs.Places.{Stands}
use Rattle.table.specs.Tables.{standing, beyond, capacity}

-- the entry with the key k, or none where that key does not stand
abbrev pub Picked : {E K : Type 0} → (E → K) → List E → K → Option E → Type 0
Picked key xs k (Some e) = Has xs e × (key e ≡ k)
Picked key xs k None = Stands key xs k → ⊥

module _ {E K : Type 0} {entry ord eq partial : _} where
  -- which answer an insertion under the key k gets: refused as present where the key stands, else as full where no place is left, else granted
  abbrev pub Allowed : (E → K) → Table E K entry ord eq partial → K → Result ℕ Refused → Type 0
  Allowed key t k (Ok i) = (Stands key (standing t) k → ⊥) × (length (standing t) < capacity t)
  Allowed key t k (Err Present) = Stands key (standing t) k
  Allowed key t k (Err Full) = (Stands key (standing t) k → ⊥) × (capacity t ≤ length (standing t))

  -- what an insertion of e leaves: e stands at the place i, and the first place beyond is used; a refusal leaves the table as it was
  abbrev pub Insertion : Table E K entry ord eq partial → E → Result ℕ Refused → Table E K entry ord eq partial → Type 0
  Insertion t e (Ok i) t' = (i ≤ length (standing t)) × (standing t' ≡ insert (standing t) i e) × (beyond t' ≡ drop 1 (beyond t))
  Insertion t e (Err why) t' = t' ≡ t

  -- the entry e was taken from the place i: it now lies in the first place beyond
  abbrev pub Taken : Table E K entry ord eq partial → ℕ → E → Table E K entry ord eq partial → Type 0
  Taken t i e t' = (slice_get (standing t) i ≡ Some e) × (standing t' ≡ remove (standing t) i) × (beyond t' ≡ e ∷ beyond t)

  -- what a removal leaves: the entry taken from some place; without an entry the table is as it was
  abbrev pub Removal : Table E K entry ord eq partial → Option E → Table E K entry ord eq partial → Type 0
  Removal t (Some e) t' = (i : ℕ) × Taken t i e t'
  Removal t None t' = t' ≡ t
