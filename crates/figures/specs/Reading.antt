-- A grade judged under the shares rule: upper limit 1,000, at most 50,000 millionths of risk, half-width 100.
use Rattle.std.specs.Prelude.{◌≡◌, ◌*◌, ◌≤◌, cond, ℤ, pos, ◌-ℤ◌, Some, int_le}
use Rattle.knowledge.specs.Millionths.{million}
use Rattle.knowledge.specs.Distributions.{Distribution, Admitted}
use Rattle.rectangular.specs.Rectangular.{rectangular}
use Rattle.acceptance.specs.declared.search.Side.TheVariants.{Upper}
use Rattle.judging.specs.Guarantee.{beyond}
use Rattle.judging.specs.declared.answers.Judgement.{Judgement}
use Rattle.judging.specs.declared.answers.Verdict.TheVariants.{Pass, Fail}

-- whatever distribution is admitted, at most 50,000 millionths of it lie above the limit
abbrev pub RiskKept : ℤ → Type 0
RiskKept y = (d : Distribution) → Admitted (rectangular 100) d → million * beyond d Upper (Some (pos 1000)) y ≤ 50000 * d.parts

-- readings up to 910 pass and the others fail, and the risk of those that pass is kept
pub record Decided (y : ℤ) (j : Judgement) : Type 0 where
  pub verdict_is : j.verdict ≡ cond (int_le y (pos 910)) Pass Fail
  pub floor_is : j.bracket.floor ≡ (rectangular 100).floor (pos 1000 -ℤ y)
  pub ceiling_is : j.bracket.ceiling ≡ (rectangular 100).ceiling (pos 1000 -ℤ y)
  pub passing : j.verdict ≡ Pass → RiskKept y

-- the reading 910 passes, and its risk is kept
pub record Passes (j : Judgement) : Type 0 where
  pub verdict_is : j.verdict ≡ Pass
  pub floor_is : j.bracket.floor ≡ 950000
  pub ceiling_is : j.bracket.ceiling ≡ 950000
  pub risk_kept : RiskKept (pos 910)
