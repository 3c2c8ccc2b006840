-- Floor and ceiling above the reading: ordered, rising, narrow, and settled from four standard uncertainties on.
use Rattle.std.proofs.Common.{◌≡◌, ℕ, ◌+◌, ◌-◌, ◌*◌, ◌<◌, ◌≤◌, min, max, ltb, ◌⊎◌, inl, inr, ⊎_elim, arith}
use Rattle.std.proofs.lemmas.Nat.{le-div}
use Rattle.std.proofs.lemmas.Bool.{cases_lt, cond-true, cond-false, lt-ltb, le-ltb}
use Rattle.knowledge.specs.Millionths.{million, rounded_down, rounded_up}
use Rattle.knowledge.proofs.Rounding.{down_rises, up_above, up_near, up_rises, up_least}
use Rattle.normal.specs.Normal.{tenths, height, floor_above, ceiling_above}
use Rattle.normal.specs.Heights.{not_low as low, not_high as high, rises}
use Rattle.normal.specs.Mirror.{Upper}

-- within four standard uncertainties
pub record Near (s n : ℕ) : Type 0 where
  pub within : tenths s n < 40
  pub floor_is : floor_above s n ≡ max 500000 (rounded_down (height s n) s - 5)
  pub ceiling_is : ceiling_above s n ≡ min million (rounded_up (height s n) s + 308)
  pub not_low : 500000 ≤ rounded_down (height s n) s
  pub not_high : rounded_up (height s n) s ≤ 999970

-- from four standard uncertainties on
pub record Far (s n : ℕ) : Type 0 where
  pub beyond : 40 ≤ tenths s n
  pub floor_is : floor_above s n ≡ 999965
  pub ceiling_is : ceiling_above s n ≡ million

pub near : (s n : ℕ) → 0 < s → tenths s n < 40 → Near s n
near s n some lt =
    record {
      within = lt;
      floor_is = cond-true (ltb (tenths s n) 40) _ _ (lt-ltb (tenths s n) 40 lt);
      ceiling_is = cond-true (ltb (tenths s n) 40) _ _ (lt-ltb (tenths s n) 40 lt);
      not_low = le-div 500000 (height s n) s some (low s n lt);
      not_high = up_least (height s n) 999970 s some (high s n some lt);
    }

far : (s n : ℕ) → 40 ≤ tenths s n → Far s n
far s n ge =
    record {
      beyond = ge;
      floor_is = cond-false (ltb (tenths s n) 40) _ _ (le-ltb (tenths s n) 40 ge);
      ceiling_is = cond-false (ltb (tenths s n) 40) _ _ (le-ltb (tenths s n) 40 ge);
    }

ways : (s n : ℕ) → 0 < s → Near s n ⊎ Far s n
ways s n some = ⊎_elim (λ lt. inl (near s n some lt)) (λ ge. inr (far s n ge)) (cases_lt (tenths s n) 40)

-- the farthest offset lies beyond four standard uncertainties
farthest : (s n : ℕ) → 0 < s → s ≤ 100000 → 2000000 ≤ n → Far s n
farthest s n some le far-off = far s n (le-div 40 (10 * n) s some (omega arith))

pub ordered : (s : ℕ) → 0 < s → (n : ℕ) → floor_above s n ≤ ceiling_above s n
ordered s some n = ⊎_elim (λ w. omega (arith, up_above (height s n) s)) (λ w. omega arith) (ways s n some)

pub narrow : (s : ℕ) → 0 < s → (n : ℕ) → ceiling_above s n ≤ floor_above s n + 314
narrow s some n = ⊎_elim (λ w. omega (arith, up_near (height s n) s)) (λ w. omega arith) (ways s n some)

-- further above the reading the chord lies higher, unless the table ends before
onward : (s m n : ℕ) → 0 < s → m ≤ n → (Near s m × Near s n × (height s m ≤ height s n)) ⊎ Far s n
onward s m n some le =
    ⊎_elim
    (λ lt.
    let earlier : tenths s m ≤ tenths s n = down_rises (10 * m) (10 * n) s some (omega arith) in
    inl (near s m some (omega arith), near s n some lt, rises s m n some le lt)) (λ ge. inr (far s n ge)) (cases_lt (tenths s n) 40)

floor_climbs : (s : ℕ) → 0 < s → (m n : ℕ) → m ≤ n → floor_above s m ≤ floor_above s n
floor_climbs s some m n le =
    ⊎_elim (λ p. omega (arith, p.0, p.1, down_rises (height s m) (height s n) s some p.2))
    (λ w. ⊎_elim (λ v. omega (arith, up_above (height s m) s)) (λ v. omega arith) (ways s m some)) (onward s m n some le)

ceiling_climbs : (s : ℕ) → 0 < s → (m n : ℕ) → m ≤ n → ceiling_above s m ≤ ceiling_above s n
ceiling_climbs s some m n le =
    ⊎_elim (λ p. omega (arith, p.0, p.1, up_rises (height s m) (height s n) s some p.2))
    (λ w. ⊎_elim (λ v. omega arith) (λ v. omega arith) (ways s m some)) (onward s m n some le)

pub floor_upper : (s : ℕ) → 0 < s → s ≤ 100000 → Upper (floor_above s)
floor_upper s some le =
    record {
      over_half = λ n. ⊎_elim (λ w. omega arith) (λ w. omega arith) (ways s n some);
      capped = λ n. ⊎_elim (λ w. omega (arith, up_above (height s n) s)) (λ w. omega arith) (ways s n some);
      climbs = floor_climbs s some;
      settles = λ m n far-off far-off'. omega (arith, farthest s m some le far-off, farthest s n some le far-off');
    }

pub ceiling_upper : (s : ℕ) → 0 < s → s ≤ 100000 → Upper (ceiling_above s)
ceiling_upper s some le =
    record {
      over_half = λ n. ⊎_elim (λ w. omega (arith, up_above (height s n) s)) (λ w. omega arith) (ways s n some);
      capped = λ n. ⊎_elim (λ w. omega arith) (λ w. omega arith) (ways s n some);
      climbs = ceiling_climbs s some;
      settles = λ m n far-off far-off'. omega (arith, farthest s m some le far-off, farthest s n some le far-off');
    }
