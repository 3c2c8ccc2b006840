-- The answers of every rectangular kind keep the rules of states of knowledge.
use Rattle.std.proofs.Common.{ap, mul-le-mul_left, arith}
use Rattle.std.specs.Prelude.{ℕ, ◌*◌, ◌<◌, ◌≤◌}
use Rattle.knowledge.specs.Millionths.{million, rounded_down, rounded_up}
use Rattle.knowledge.specs.Knowledge.{Rules}
use Rattle.knowledge.proofs.Rounding.{down_rises, up_above, up_near, up_rises, part_up}
use Rattle.rectangular.specs.Rectangular.{covered, rectangular}
use Rattle.rectangular.specs.Interval.{covered_whole, covered_rises, covered_nearest}

pub rectangular_rules : (s : ℕ) → 1 ≤ s → s ≤ 400000 → Rules (rectangular s)
rectangular_rules s some bounded =
    let steps : 0 < 2 * s = omega arith in
    record {
      ordered = λ x. up_above (million * covered s x) (2 * s);
      capped = λ x. part_up (covered s x) (2 * s) steps (covered_whole s x);
      floor_rises = λ x y le. down_rises (million * covered s x) (million * covered s y) (2 * s) steps (mul-le-mul_left million (covered_rises s x y le));
      ceiling_rises = λ x y le. up_rises (million * covered s x) (million * covered s y) (2 * s) steps (mul-le-mul_left million (covered_rises s x y le));
      narrow = λ x. up_near (million * covered s x) (2 * s);
      width_capped = omega arith;
      floor_ends = λ x. ap (λ p. rounded_down (million * p) (2 * s)) (covered_nearest s x bounded);
      ceiling_ends = λ x. ap (λ p. rounded_up (million * p) (2 * s)) (covered_nearest s x bounded);
    }
