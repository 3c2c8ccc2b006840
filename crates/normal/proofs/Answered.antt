-- What the program computes at a value of the normal kind: quotients between the table's ends, and the answers at an offset.
use Rattle.std.proofs.Common.{◌≡◌, ℕ, ◌+◌, ◌-◌, ◌*◌, ◌/◌, ◌%◌, ◌<◌, ◌≤◌, ℤ, pos, nat_abs, ◌<ℤ◌, sym, arith}
use Rattle.knowledge.specs.Millionths.{million, rounded_down, rounded_up}
use Rattle.knowledge.specs.Offsets.{nearest}
use Rattle.knowledge.proofs.Rounding.{up_above}
use Rattle.normal.specs.declared.Normal.{Normal}
use Rattle.normal.specs.Normal.{tenths, height, floor_above, ceiling_above, normal}
use Rattle.normal.specs.Heights.{height_from, not_high}
use Rattle.normal.specs.Table.{ChordOver}
use Rattle.normal.specs.Halves.{near, floor_upper, ceiling_upper}
use Rattle.normal.specs.Mirror.{answered_above, answered_below}

-- the program's quotients lie between the table's ends
pub record Between (h s : ℕ) : Type 0 where
  pub not_low : 500000 ≤ rounded_down h s
  pub not_high : rounded_up h s ≤ 999970
  pub in_order : rounded_down h s ≤ rounded_up h s

pub between : {h d : ℕ} (k : Normal) (n : ℕ) → d ≡ k.standard_uncertainty → (tenths k.standard_uncertainty n < 40) × (h ≡ height k.standard_uncertainty n) → Between h d
between k n same found =
    let s = k.standard_uncertainty in
    let ends = near s n k.some found.0 in
    simp (same, found.1) (record { not_low = ends.not_low; not_high = ends.not_high; in_order = up_above (height s n) s })

-- the chord's height is no more than the table's last value
pub record Capped (start rise s n : ℕ) : Type 0 where
  pub height_fits : 10 * (start * s + rise * (10 * n % s)) ≤ 99997000000

pub capped : {start rise d : ℕ} (k : Normal) (n : ℕ) → d ≡ k.standard_uncertainty → ChordOver (10 * n / d) start rise → Capped start rise d n
capped k n same over =
    let s = k.standard_uncertainty in
    let over' : ChordOver (10 * n / s) _ _ = rw same at over in
    rw same (record { height_fits = omega (arith, k.bounded, height_from s n _ _ over', not_high s n k.some over'.within) })

-- the normal kind's answers at an offset, from the distance of its nearest one
pub above_reading : (k : Normal) (x : ℤ) → pos 0 <ℤ nearest x → (floor_above k.standard_uncertainty (nat_abs (nearest x)) ≡ (normal k.standard_uncertainty).floor x) × (ceiling_above k.standard_uncertainty (nat_abs (nearest x)) ≡ (normal k.standard_uncertainty).ceiling x)
above_reading k x positive =
    let s = k.standard_uncertainty in
    let lower = floor_upper s k.some k.bounded in
    let upper = ceiling_upper s k.some k.bounded in
    (sym (answered_above (floor_above s) (ceiling_above s) lower upper x positive), sym (answered_above (ceiling_above s) (floor_above s) upper lower x positive))

pub below_reading : (k : Normal) (x : ℤ) → nearest x <ℤ pos 0 → (million - ceiling_above k.standard_uncertainty (nat_abs (nearest x)) ≡ (normal k.standard_uncertainty).floor x) × (million - floor_above k.standard_uncertainty (nat_abs (nearest x)) ≡ (normal k.standard_uncertainty).ceiling x)
below_reading k x negative =
    let s = k.standard_uncertainty in
    let lower = floor_upper s k.some k.bounded in
    let upper = ceiling_upper s k.some k.bounded in
    (sym (answered_below (floor_above s) (ceiling_above s) lower upper x negative), sym (answered_below (ceiling_above s) (floor_above s) upper lower x negative))
