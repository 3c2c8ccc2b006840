-- What an insertion and a removal change of the entries that stand, for callers.
use Rattle.std.proofs.Common.{◌≡◌, ℕ, zero, suc, List, [], ◌∷◌, Some, ap}
use Rattle.std.specs.List.{slice_get, insert, remove}

-- a removed entry that is put back
pub inserted_removed : {E : Type 0} (xs : List E) (i : ℕ) (e : E) → slice_get xs i ≡ Some e → insert (remove xs i) i e ≡ xs
inserted_removed [] i e at = cc
inserted_removed (x ∷ xs) zero e at = cc
inserted_removed (x ∷ xs) (suc i) e at = ap (λ ys. x ∷ ys) (inserted_removed xs i e at)
