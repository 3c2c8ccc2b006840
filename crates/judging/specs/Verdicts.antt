-- Verdicts, and what judging answers or refuses.
use Rattle.std.specs.Prelude.{Bool, false, cond, ℤ, Some, None, Option}
use Rattle.faults.specs.declared.Refusal.{Refusal}
use Rattle.faults.specs.Faults.{first_of}
use Rattle.knowledge.specs.Knowledge.{Answers}
use Rattle.requirement.specs.Limits.{within}
use Rattle.requirement.specs.declared.rules.Mode.{Mode}
use Rattle.requirement.specs.declared.rules.Mode.TheVariants.{Two, Four}
use Rattle.requirement.specs.declared.requirements.Requirement.{Requirement}
use Rattle.acceptance.specs.declared.bounds.Acceptance.{Acceptance}
use Rattle.acceptance.specs.Guard.{width_of}
use Rattle.acceptance.specs.Acceptance.{widened, acceptance, limits_refusal}
use Rattle.judging.specs.Brackets.{reading_refusal, bracketed}
use Rattle.judging.specs.declared.answers.Verdict.{Verdict}
use Rattle.judging.specs.declared.answers.Verdict.TheVariants.{Pass, ConditionalPass, ConditionalFail, Fail}
use Rattle.judging.specs.declared.answers.Judgement.{Judgement}

-- accepted: not outside the acceptance limits, which belong to the interval; without acceptance limits nothing is
abbrev pub accepts : Option Acceptance → ℤ → Bool
accepts None y = false
accepts (Some a) y = within a.lower a.upper y

-- what is said of a reading that is not accepted: two verdicts tell no more, four tell how far it lies out
abbrev pub not_accepted : Mode → Option ℤ → Option ℤ → ℤ → ℤ → Verdict
not_accepted Two l u w y = Fail
not_accepted Four l u w y = cond (within l u y) ConditionalPass (cond (widened l u w y) ConditionalFail Fail)

abbrev pub verdict_by : Option Acceptance → Mode → Option ℤ → Option ℤ → ℤ → ℤ → Verdict
verdict_by a mode l u w y = cond (accepts a y) Pass (not_accepted mode l u w y)

-- the verdict on reading y, by requirement q, an expanded uncertainty and the knowledge k
abbrev pub verdict_of : Requirement → ℤ → ℤ → Answers → Verdict
verdict_of q expanded y k = verdict_by (acceptance q expanded k) q.mode q.tolerance.lower q.tolerance.upper (width_of q.rule expanded) y

-- what judging answers
abbrev pub judged : Requirement → ℤ → ℤ → Answers → Judgement
judged q expanded y k = record { verdict = verdict_of q expanded y k; bracket = bracketed k q.tolerance y }

-- what judging is refused for, in this order: a number out of range, then the acceptance limits
abbrev pub judge_refusal : Requirement → ℤ → ℤ → Answers → Option Refusal
judge_refusal q expanded y k = first_of (reading_refusal y) (limits_refusal q expanded k)
