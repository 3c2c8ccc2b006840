-- What a search answered.
use Rattle.std.proofs.Common.{◌≡◌, ℕ, List, is_some, Some, Ok, Err, Result, Ordering, sym, ap, subst, true≢false}
use Rattle.std.specs.Option.{unwrap_or}
use Rattle.std.specs.Result.{result_ok}
use Rattle.table.specs.Places.{Found}

-- the place in a search's answer
pub found_place : {E K : Type 0} (key : E → K) (compare : K → K → Ordering) (xs : List E) (k : K) (i : ℕ) (r : Result ℕ ℕ) → Found key compare xs k r → Some i ≡ result_ok r → Found key compare xs k (Ok i)
found_place key compare xs k i (Ok j) found same = subst (λ (n : ℕ). Found key compare xs k (Ok n)) (ap (λ o. unwrap_or o i) (sym same)) found
found_place key compare xs k i (Err j) found same = absurd (true≢false (ap is_some same))
