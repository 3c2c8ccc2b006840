-- The table's rule, tested once over the whole table: the values rise, and the gaps between them never grow.
use Rattle.std.proofs.Common.{◌≡◌, ℕ, zero, suc, ◌+◌, ◌<◌, ◌≤◌, Bool, true, ◌&&◌, leb, Decides, refl, subst, ⊎_elim, add-one, arith}
use Rattle.std.proofs.lemmas.Bool.{cases_lt, leb-true, le-leb, and_parts, and_from}
use Rattle.std.proofs.lemmas.Bool.Decides.{Decides-below_and}
use Rattle.normal.specs.Table.{value, gap}

-- at k tenths: the next value is no less, and the next gap no greater (past the table there is no gap)
abbrev Steady : ℕ → Type 0
Steady k = (value k ≤ value (k + 1)) × (gap (k + 1) ≤ gap k)

abbrev steady : ℕ → Bool
steady k = leb (value k) (value (k + 1)) && leb (gap (k + 1)) (gap k)

abbrev steady_below : ℕ → Bool
steady_below zero = true
steady_below (suc n) = steady n && steady_below n

steady_tells : (k : ℕ) → Decides (steady k) (Steady k)
steady_tells k = (
  λ t. let p = and_parts (leb (value k) (value (k + 1))) (leb (gap (k + 1)) (gap k)) t in (leb-true _ _ p.0, leb-true _ _ p.1),
  λ p. and_from _ _ (le-leb _ _ p.0) (le-leb _ _ p.1),
)

-- the test, computed over the forty tenths
everywhere : (k : ℕ) → k < 40 → Steady k
everywhere = (Decides-below_and steady Steady steady_below steady_tells refl (λ _. refl) 40).0 refl

-- what holds at j and goes on at each step below b holds from j to b
onward : (P : ℕ → Type 0) (j b : ℕ) → P j → ((k : ℕ) → k < b → P k → P (k + 1)) → (k : ℕ) → j ≤ k → k ≤ b → P k
onward P j b start step zero le _ = subst P (omega arith) start
onward P j b start step (suc k) le le' =
    ⊎_elim (λ lt. subst P (add-one k) (step k (omega arith) (onward P j b start step k (omega arith) (omega arith))))
    (λ ge. subst P (omega arith) start) (cases_lt j (suc k))

pub next : (k : ℕ) → k < 40 → value k + gap k ≡ value (k + 1)
next k lt = omega (arith, (everywhere k lt).0)

-- no value is below an earlier one
pub climbs : (j k : ℕ) → j ≤ k → k ≤ 40 → value j ≤ value k
climbs j k = onward (λ i. value j ≤ value i) j 40 (omega arith) (λ i lt h. omega (arith, (everywhere i lt).0)) k

-- no gap is above an earlier one
pub shrinks : (j k : ℕ) → j ≤ k → k ≤ 40 → gap k ≤ gap j
shrinks j k = onward (λ i. gap i ≤ gap j) j 40 (omega arith) (λ i lt h. omega (arith, (everywhere i lt).1)) k
