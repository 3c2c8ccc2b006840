-- What a judgement guarantees, in terms of the distributions that the state of knowledge admits.
use Rattle.std.specs.Prelude.{◌≡◌, ℕ, ◌+◌, ◌-◌, ◌*◌, ◌≤◌, ℤ, ◌-ℤ◌, Some, None, Option}
use Rattle.knowledge.specs.Millionths.{million}
use Rattle.knowledge.specs.Knowledge.{Answers}
use Rattle.knowledge.specs.Distributions.{Distribution, Admitted}
use Rattle.requirement.specs.declared.tolerance.Tolerance.{Tolerance}
use Rattle.requirement.specs.declared.rules.Rule.{Rule}
use Rattle.requirement.specs.declared.rules.Rule.TheVariants.{Simple, Guard, Multiple, Shares}
use Rattle.requirement.specs.declared.requirements.Requirement.{Requirement}
use Rattle.acceptance.specs.declared.search.Side.{Side}
use Rattle.acceptance.specs.declared.search.Side.TheVariants.{Lower, Upper}
use Rattle.judging.specs.declared.answers.Judgement.{Judgement}
use Rattle.judging.specs.declared.answers.Verdict.{Verdict}
use Rattle.judging.specs.declared.answers.Verdict.TheVariants.{Pass}
use Rattle.judging.specs.declared.answers.Bracket.{Bracket}

-- how many of a distribution's parts lie above the lower limit and up to the upper one, for reading y:
-- a true value exactly on a limit counts as having no probability
abbrev pub parts_between : Distribution → Option ℤ → Option ℤ → ℤ → ℕ
parts_between d (Some l) (Some u) y = d.at_most (u -ℤ y) - d.at_most (l -ℤ y)
parts_between d None (Some u) y = d.at_most (u -ℤ y)
parts_between d (Some l) None y = d.parts - d.at_most (l -ℤ y)
parts_between d None None y = d.parts

-- the conforming parts: the conformity probability is this number ÷ parts
abbrev pub conforming : Distribution → Tolerance → ℤ → ℕ
conforming d t y = parts_between d t.lower t.upper y

-- what a bracket b guarantees, for reading y within the tolerance t under the knowledge k
pub record BracketHolds (k : Answers) (t : Tolerance) (y : ℤ) (b : Bracket) : Type 0 where
  -- no admitted distribution has a conformity probability below the floor or above the ceiling
  pub over_floor : (d : Distribution) → Admitted k d → b.floor * d.parts ≤ million * conforming d t y
  pub under_ceiling : (d : Distribution) → Admitted k d → million * conforming d t y ≤ b.ceiling * d.parts
  -- each of the two is met exactly by some admitted distribution
  pub floor_met : (d : Distribution) × Admitted k d × (b.floor * d.parts ≡ million * conforming d t y)
  pub ceiling_met : (d : Distribution) × Admitted k d × (b.ceiling * d.parts ≡ million * conforming d t y)
  -- they differ by at most twice the width
  pub narrow : b.ceiling ≤ b.floor + 2 * k.width

-- how many parts lie beyond the limit on one side, for reading y: the side's risk is this number ÷ parts
abbrev pub beyond : Distribution → Side → Option ℤ → ℤ → ℕ
beyond d side None y = 0
beyond d Lower (Some l) y = d.at_most (l -ℤ y)
beyond d Upper (Some u) y = d.parts - d.at_most (u -ℤ y)

-- each side's risk is within its share
pub record WithinShares (d : Distribution) (t : Tolerance) (y : ℤ) (lower upper : ℕ) : Type 0 where
  pub lower_within : million * beyond d Lower t.lower y ≤ lower * d.parts
  pub upper_within : million * beyond d Upper t.upper y ≤ upper * d.parts

-- under the shares rule a reading passes exactly when every admitted distribution keeps each side's risk within its share
pub record SharesDecide (k : Answers) (t : Tolerance) (y : ℤ) (lower upper : ℕ) (v : Verdict) : Type 0 where
  pub passing : v ≡ Pass → (d : Distribution) → Admitted k d → WithinShares d t y lower upper
  pub passes : ((d : Distribution) → Admitted k d → WithinShares d t y lower upper) → v ≡ Pass

-- what the verdict guarantees under each rule
abbrev pub VerdictHolds : Rule → Answers → Tolerance → ℤ → Verdict → Type 0
VerdictHolds Simple k t y v = Unit {0}
VerdictHolds (Guard w) k t y v = Unit {0}
VerdictHolds (Multiple r) k t y v = Unit {0}
VerdictHolds (Shares lower upper) k t y v = SharesDecide k t y lower upper v

-- what a judgement j of reading y by requirement q guarantees
pub record JudgementHolds (k : Answers) (q : Requirement) (y : ℤ) (j : Judgement) : Type 0 where
  pub bracket_holds : BracketHolds k q.tolerance y j.bracket
  pub verdict_holds : VerdictHolds q.rule k q.tolerance y j.verdict
