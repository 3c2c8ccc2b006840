use Rattle.std.proofs.Common.{◌≡◌, ℤ, pos, negsuc, ◌+ℤ◌, ◌-ℤ◌, ◌≤ℤ◌, ap, ◌∙◌, arith, w64, to_z, of_z}
use Rattle.std.proofs.lemmas.Int.{ints, clamps}
use Rattle.knowledge.specs.Offsets.{nearest}
use Rattle.normal.specs.declared.Normal.{Normal}
use Rattle.normal.specs.Normal.{normal}
use Rattle.normal_values.proofs.through_layers.Goals as goal

-- within the range of offsets three shifts and their sum come back to the same offset
there_and_back :
    (x y a b d : ℤ) → negsuc 1799999 ≤ℤ x → x ≤ℤ pos 1800000 → y ≡ (x -ℤ pos 100023) → a ≡ pos 30 → b ≡ negsuc 6 → d ≡ pos 100000
    → (nearest (nearest (nearest y +ℤ d) +ℤ b) +ℤ a) ≡ x
there_and_back x y a b d low high y-is a-is b-is d-is = omega (arith, ints, clamps)

pub returns : goal.returns
returns c low high =
    let layers = c.new-layers.result in
    let x = c.args.offset in
    let y = to_z w64 (of_z w64 (to_z w64 (of_z w64 c.nearest_offset.result) -ℤ pos 100023)) in
    let kind-is : layers.below.below.below ≡ c.args.kind = cc in
    let a-is : layers.below.below.bias ≡ pos 30 = cc in
    let b-is : layers.below.bias ≡ negsuc 6 = cc in
    let y-is : y ≡ (x -ℤ pos 100023) = omega (arith, ints, clamps) in
    let back = there_and_back x y layers.below.below.bias layers.below.bias layers.bias low high y-is a-is b-is c.new-layers.ensures.1 in
    let s = layers.below.below.below.standard_uncertainty in (
      c.at_most.ensures.0 ∙ ap (normal s).floor back ∙ ap (λ (k : Normal). (normal k.standard_uncertainty).floor x) kind-is,
      c.at_most.ensures.1 ∙ ap (normal s).ceiling back ∙ ap (λ (k : Normal). (normal k.standard_uncertainty).ceiling x) kind-is,
    )
