-- Answers that are shifted keep the rules, whatever the state of knowledge below.
use Rattle.std.specs.Prelude.{◌≡◌, ℤ, ◌+ℤ◌, ◌≤ℤ◌}
use Rattle.std.proofs.Common.{ap, arith}
use Rattle.std.proofs.lemmas.Int.{ints, clamps}
use Rattle.knowledge.specs.Offsets.{nearest}
use Rattle.knowledge.specs.Knowledge.{Answers, Rules}
use Rattle.bias.specs.Bias.{shifted}

-- the shifted offset never falls, and the nearest offset is its own nearest
shift_rises : (c x y : ℤ) → x ≤ℤ y → (nearest x +ℤ c) ≤ℤ (nearest y +ℤ c)
shift_rises c x y le = omega (arith, ints, clamps)

nearest_stays : (x : ℤ) → nearest x ≡ nearest (nearest x)
nearest_stays x = omega (arith, ints, clamps)

pub shifted_rules : (c : ℤ) (k : Answers) → Rules k → Rules (shifted c k)
shifted_rules c k r =
    record {
      ordered = λ x. r.ordered (nearest x +ℤ c);
      capped = λ x. r.capped (nearest x +ℤ c);
      floor_rises = λ x y le. r.floor_rises (nearest x +ℤ c) (nearest y +ℤ c) (shift_rises c x y le);
      ceiling_rises = λ x y le. r.ceiling_rises (nearest x +ℤ c) (nearest y +ℤ c) (shift_rises c x y le);
      narrow = λ x. r.narrow (nearest x +ℤ c);
      width_capped = r.width_capped;
      floor_ends = λ x. ap (λ z. k.floor (z +ℤ c)) (nearest_stays x);
      ceiling_ends = λ x. ap (λ z. k.ceiling (z +ℤ c)) (nearest_stays x);
    }
