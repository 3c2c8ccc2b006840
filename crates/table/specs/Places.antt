-- Places: where a key stands, and where it belongs.
use Rattle.std.specs.Prelude.{◌≡◌, ℕ, ◌<◌, ◌≤◌, List, map, length, Ok, Err, Result}
use Rattle.std.specs.declared.cmp.Ordering.TheVariants.{Less}
use Rattle.std.specs.declared.cmp.Ordering.{Ordering}
use Rattle.std.specs.List.{HoldsAt, ContainsAt as Has}
use Rattle.std.specs.List.Sorted.{IsPartitionPoint}

-- what a search for the key k answers: the place that holds it, or the place where it belongs, with lesser keys before and greater ones from there on
abbrev pub Found : {E K : Type 0} → (E → K) → (K → K → Ordering) → List E → K → Result ℕ ℕ → Type 0
Found key compare xs k (Ok i) = (i < length xs) × HoldsAt (λ e. key e ≡ k) xs i
Found key compare xs k (Err i) = (i ≤ length xs) × IsPartitionPoint (λ e. compare (key e) k ≡ Less) (λ e. compare k (key e) ≡ Less) xs i

-- a key stands among entries: one of them has it
abbrev pub Stands : {E K : Type 0} → (E → K) → List E → K → Type 0
Stands key xs k = Has (map key xs) k

-- an answer is right on whether the key stands
abbrev pub Known : {E K : Type 0} → (E → K) → List E → K → Result ℕ ℕ → Type 0
Known key xs k (Ok i) = Stands key xs k
Known key xs k (Err i) = Stands key xs k → ⊥
