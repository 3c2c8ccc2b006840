use Rattle.std.proofs.Common.{◌≡◌, ◌-◌, false, ℤ, pos, negsuc, nat_abs, ◌<ℤ◌, ap, ◌∙◌, arith, w64, SFits, to_z, of_z, rules}
use lib.Signed.{lt_z}
use Rattle.std.proofs.lemmas.Int.{ints, to_z-of_z}
use Rattle.knowledge.specs.Millionths.{million}
use Rattle.knowledge.specs.Offsets.{nearest}
use Rattle.normal.specs.Normal.{floor_above, ceiling_above}
use Rattle.normal.specs.Halves.{floor_upper, ceiling_upper}
use Rattle.normal.proofs.Answered.{above_reading, below_reading}
use Rattle.normal.proofs.NormalKnowledge.at_most.Goals as goal

-- neither 0 nor above it
below_zero : (z : ℤ) → SFits w64 z → (of_z w64 z ≡ 0 → ⊥) → lt_z (pos 0) (to_z w64 (of_z w64 z)) ≡ false → z <ℤ pos 0
below_zero (pos n) fits some no_more = grind (arith, ints, to_z-of_z)
below_zero (negsuc n) fits some no_more = omega (arith, ints)

pub mirrored-requires : goal.mirrored-requires
mirrored-requires c =
    let k = c.args.self.now in
    let s = k.standard_uncertainty in
    let n = c.unsigned_abs.result in (
      omega (arith, c.above-image.ensures.0, (floor_upper s k.some k.bounded).capped n),
      omega (arith, c.above-image.ensures.1, (ceiling_upper s k.some k.bounded).capped n),
    )

pub returns-then-offset-gt0 : goal.returns-then-offset-gt0
returns-then-offset-gt0 c =
    let k = c.args.self.now in
    let s = k.standard_uncertainty in
    let x = c.args.offset in
    let positive : pos 0 <ℤ nearest x = grind (arith, ints, to_z-of_z) in
    let distance : c.unsigned_abs.result ≡ nat_abs (nearest x) = grind (arith, ints, to_z-of_z) in
    let answered = above_reading k x positive in
    (c.above-image.ensures.0 ∙ ap (floor_above s) distance ∙ answered.0, c.above-image.ensures.1 ∙ ap (ceiling_above s) distance ∙ answered.1)

pub returns-else-offset-gt0 : goal.returns-else-offset-gt0
returns-else-offset-gt0 c =
    let k = c.args.self.now in
    let s = k.standard_uncertainty in
    let x = c.args.offset in
    let near = c.nearest_offset-offset.result in
    let fits : SFits w64 near = search rules in
    let below = below_zero near fits c.if-offset-eq0.false c.if-offset-gt0.false in
    let negative : nearest x <ℤ pos 0 = grind (arith, ints, to_z-of_z) in
    let distance : c.unsigned_abs.result ≡ nat_abs (nearest x) = grind (arith, ints, to_z-of_z) in
    let answered = below_reading k x negative in (
      c.mirrored.ensures.0 ∙ ap (λ p. million - p) (c.above-image.ensures.1 ∙ ap (ceiling_above s) distance) ∙ answered.0,
      c.mirrored.ensures.1 ∙ ap (λ p. million - p) (c.above-image.ensures.0 ∙ ap (floor_above s) distance) ∙ answered.1,
    )
