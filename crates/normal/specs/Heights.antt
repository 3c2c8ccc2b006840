-- The chords, one after the other: none falls, each ends where the next begins, and all lie between the table's ends.
use Rattle.std.proofs.Common.{◌≡◌, ℕ, ◌+◌, ◌*◌, ◌<◌, ◌≤◌, sym, ap, subst, ⊎_elim, mul-le-mul_right, add-mul, mul-le-mul_left, div-add-mod', arith}
use Rattle.std.proofs.lemmas.Nat.{le-div, mod_below}
use Rattle.std.proofs.lemmas.Bool.{cases_lt}
use Rattle.normal.specs.Table.{value, gap, ChordOver}
use Rattle.normal.specs.Normal.{tenths, left_over, height}
use Rattle.normal.specs.Values.{next, climbs}

-- the chord over the tenth k at r of its s parts
abbrev chord : ℕ → ℕ → ℕ → ℕ
chord s k r = 10 * (value k * s + gap k * r)

-- within its tenth a chord never falls
rises_within : (s k q r : ℕ) → q ≤ r → chord s k q ≤ chord s k r
rises_within s k q r le = omega (arith, mul-le-mul_left (gap k) le)

-- at the end of its tenth it meets the next value
meets : (s k : ℕ) → k < 40 → chord s k s ≡ 10 * (value (k + 1) * s)
meets s k lt = omega (arith, add-mul (value k) (gap k) s, ap (λ v. v * s) (next k lt))

-- so it stays below every later value
below_later : (s j k r : ℕ) → j < k → k ≤ 40 → r ≤ s → chord s j r ≤ 10 * (value k * s)
below_later s j k r lt le part =
    let end = meets s j (omega arith) in
    let later = mul-le-mul_right s (climbs (j + 1) k (omega arith) le) in
    omega (arith, rises_within s j r s part)

-- the further above the reading, the higher
pub rises : (s m n : ℕ) → 0 < s → m ≤ n → tenths s n < 40 → height s m ≤ height s n
rises s m n some le lt =
    let whole = div-add-mod' (10 * m) s in
    let whole' = div-add-mod' (10 * n) s in
    let later = le-div (tenths s m) (10 * n) s some (omega arith) in
    let part = mod_below (10 * m) s some in
    ⊎_elim (λ earlier. omega (arith, below_later s (tenths s m) (tenths s n) (left_over s m) earlier (omega arith) (omega arith)))
    (λ no-later.
    let same : tenths s m ≡ tenths s n = omega arith in
    let further : left_over s m ≤ left_over s n = omega (arith, ap (λ k. k * s) same) in
    subst (λ (k : ℕ). chord s k (left_over s m) ≤ chord s (tenths s n) (left_over s n)) (sym same)
    (rises_within s (tenths s n) (left_over s m) (left_over s n) further)) (cases_lt (tenths s m) (tenths s n))

-- from the table's first value to its last
pub not_low : (s n : ℕ) → tenths s n < 40 → 500000 * s ≤ height s n
not_low s n lt = omega (arith, mul-le-mul_right s (climbs 0 (tenths s n) (omega arith) (omega arith)))

pub not_high : (s n : ℕ) → 0 < s → tenths s n < 40 → height s n ≤ 999970 * s
not_high s n some lt = omega (arith, mod_below (10 * n) s some, below_later s (tenths s n) 40 (left_over s n) lt (omega arith) (omega (arith, mod_below (10 * n) s some)))

-- a chord's start and rise give its height
pub height_from : (s n start rise : ℕ) → ChordOver (tenths s n) start rise → 10 * (start * s + rise * left_over s n) ≡ height s n
height_from s n start rise over =
    let rise-is : rise ≡ gap (tenths s n) = omega arith in
    omega (arith, ap (λ v. v * s) over.starts, ap (λ g. g * left_over s n) rise-is)
