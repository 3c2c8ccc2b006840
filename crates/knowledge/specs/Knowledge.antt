-- States of knowledge by what they answer, and the rules that the answers keep.
use Rattle.std.specs.Prelude.{◌≡◌, ℕ, ◌+◌, ◌≤◌, ℤ, ◌≤ℤ◌}
use Rattle.knowledge.specs.Millionths.{million}
use Rattle.knowledge.specs.Offsets.{nearest}

-- all that a state of knowledge answers: floor and ceiling at each offset, in millionths, and its width
pub record Answers : Type 0 where
  pub floor : ℤ → ℕ
  pub ceiling : ℤ → ℕ
  pub width : ℕ

-- what every state of knowledge shows of its answers
pub record Rules (k : Answers) : Type 0 where
  -- the floor is never above the ceiling, nor the ceiling above one
  pub ordered : (x : ℤ) → k.floor x ≤ k.ceiling x
  pub capped : (x : ℤ) → k.ceiling x ≤ million
  -- neither falls as the offset grows
  pub floor_rises : (x y : ℤ) → x ≤ℤ y → k.floor x ≤ k.floor y
  pub ceiling_rises : (x y : ℤ) → x ≤ℤ y → k.ceiling x ≤ k.ceiling y
  -- the width bounds their difference, and is itself at most one
  pub narrow : (x : ℤ) → k.ceiling x ≤ k.floor x + k.width
  pub width_capped : k.width ≤ million
  -- an offset out of range is answered as the nearer end
  pub floor_ends : (x : ℤ) → k.floor x ≡ k.floor (nearest x)
  pub ceiling_ends : (x : ℤ) → k.ceiling x ≡ k.ceiling (nearest x)
