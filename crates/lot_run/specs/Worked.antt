-- A lot worked through: grades 7 and 8 are entered, 7 is entered again, the class is tallied, 7 is struck, the first place is shown,
-- and the class is tallied again.
use Rattle.std.specs.Prelude.{◌≡◌, ℕ, ◌+◌, ◌-◌, ◌*◌, ◌≤◌, [], ◌∷◌, ℤ, pos, Some}
use Rattle.faults.specs.Faults.{direct}
use Rattle.faults.specs.declared.Refusal.TheVariants.{DuplicateItem}
use Rattle.knowledge.specs.Millionths.{million}
use Rattle.knowledge.specs.Knowledge.{Rules}
use Rattle.knowledge.specs.Distributions.{Distribution, Admitted}
use Rattle.rectangular.specs.Rectangular.{rectangular}
use Rattle.requirement.specs.Making.{HoldsRow}
use Rattle.requirement.specs.declared.requirements.Requirement.{Requirement}
use Rattle.judging.specs.declared.answers.Judgement.{Judgement}
use Rattle.judging.specs.declared.answers.Verdict.TheVariants.{Pass}
use Rattle.lot.specs.Notes.{item_of}
use Rattle.lot.specs.Risks.{SumsHold}
use Rattle.lot.specs.declared.items.Row.{Row}
use Rattle.figures.specs.Grades.{grade_row}
use Rattle.lot_run.specs.Grades.{grade, grade_note}
use Rattle.lot_run.specs.declared.worked.WorkedLot.{WorkedLot}

-- a pass whose floor and ceiling are the same
abbrev pub passed_at : ℕ → Judgement
passed_at p = record { verdict = Pass; bracket = record { floor = p; ceiling = p } }

-- the row of so many passes and no other verdict, whose two sums are the same
abbrev pub passes_alone : ℕ → ℕ → Row
passes_alone n sum = record { passes = n; conditional_passes = 0; conditional_fails = 0; fails = 0; lesser = sum; greater = sum }

-- the parts of a distribution above an offset: for a reading so far below the limit, its parts at risk
abbrev pub above : Distribution → ℤ → ℕ
above d x = d.parts - d.at_most x

-- a risk ÷ parts is neither below the lesser sum of a row nor above the greater, in millionths
pub record Bounds (row : Row) (risk parts : ℕ) : Type 0 where
  pub over_lesser : row.lesser * parts ≤ million * risk
  pub under_greater : million * risk ≤ row.greater * parts

-- the guarantee of the two rows in the terms of the book, by the requirement that was made and the rules that the state of knowledge
-- keeps: the first row's sums hold for the passes 7 and 8, the second row's for the pass 8
pub record SumsHeld (before after : Row) : Type 0 where
  pub requirement : Requirement
  pub made : HoldsRow grade_row requirement
  pub rules_7 : Rules (rectangular 100)
  pub rules_8 : Rules (rectangular 100)
  pub two_hold : SumsHold (grade_note requirement rules_7 (pos 7) (pos 910) ∷ grade_note requirement rules_8 (pos 8) (pos 905) ∷ []) before.lesser before.greater
  pub one_holds : SumsHold (grade_note requirement rules_8 (pos 8) (pos 905) ∷ []) after.lesser after.greater

-- what the calls answer, and what their two rows guarantee
pub record Worked (w : WorkedLot) : Type 0 where
  -- both pass, the one with a risk of 50,000 millionths and the other with 25,000
  pub first_is : w.first ≡ passed_at 950000
  pub second_is : w.second ≡ passed_at 975000
  -- the number 7 stands already
  pub again_is : w.again ≡ Some (direct DuplicateItem)
  -- two passes before the strike, one after it; item 8 is then the first
  pub before_is : w.before ≡ passes_alone 2 75000
  pub shown_is : w.shown ≡ item_of (grade (pos 8) (pos 905)) (passed_at 975000)
  pub after_is : w.after ≡ passes_alone 1 25000
  pub held : SumsHeld w.before w.after
  -- the state of knowledge admits distributions, so that the bounds below are about something
  pub some_admitted : (d : Distribution) × Admitted (rectangular 100) d
  -- the same in plain numbers: the limit lies 90 above the one reading and 95 above the other, and whatever distributions are admitted
  -- for the two, the sum of their risks lies between the sums of the row
  pub two_bounded : (d e : Distribution) → Admitted (rectangular 100) d → Admitted (rectangular 100) e
      → Bounds w.before (above d (pos 90) * e.parts + d.parts * above e (pos 95)) (d.parts * e.parts)
  pub one_bounded : (e : Distribution) → Admitted (rectangular 100) e → Bounds w.after (above e (pos 95)) e.parts
