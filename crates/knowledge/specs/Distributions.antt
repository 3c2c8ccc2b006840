-- The distributions that a state of knowledge admits. Probabilities are fractions, compared multiplied out.
use Rattle.std.specs.Prelude.{ℕ, ◌*◌, ◌≤◌, ℤ, ◌≤ℤ◌}
use Rattle.knowledge.specs.Millionths.{million}
use Rattle.knowledge.specs.Offsets.{Offset}
use Rattle.knowledge.specs.Knowledge.{Answers}

-- a distribution of the offset: `at_most x` of its `parts` lie at or below x, so that the probability is at_most x ÷ parts
pub record Distribution : Type 0 where
  pub parts : ℕ
  pub at_most : ℤ → ℕ
  pub some : 1 ≤ parts
  pub bounded : (x : ℤ) → Offset x → at_most x ≤ parts
  pub rises : (x y : ℤ) → Offset x → Offset y → x ≤ℤ y → at_most x ≤ at_most y

-- admitted: at every offset the probability lies from the floor to the ceiling
pub record Admitted (k : Answers) (d : Distribution) : Type 0 where
  pub over_floor : (x : ℤ) → Offset x → k.floor x * d.parts ≤ million * d.at_most x
  pub under_ceiling : (x : ℤ) → Offset x → million * d.at_most x ≤ k.ceiling x * d.parts
