-- Worked figures: what the definitions give for known numbers.
use Rattle.std.specs.Prelude.{◌≡◌, ℕ, List, [], ◌∷◌, ℤ, pos, neg_ℤ, Some, None, Option}
use Rattle.faults.specs.declared.Refusal.{Refusal}
use Rattle.faults.specs.declared.Refusal.TheVariants.{NoOffset, NothingAcceptable}
use Rattle.knowledge.specs.Knowledge.{Answers}
use Rattle.rectangular.specs.Rectangular.{rectangular}
use Rattle.normal.specs.Normal.{normal}
use Rattle.bias.specs.Bias.{shifted}
use Rattle.requirement.specs.Rules.{letter_M, letter_P}
use Rattle.requirement.specs.Making.{HoldsRow, requirement_refusal}
use Rattle.requirement.specs.declared.rows.RequirementRow.{RequirementRow}
use Rattle.requirement.specs.declared.rules.Rule.TheVariants.{Multiple}
use Rattle.requirement.specs.declared.requirements.Requirement.{Requirement}
use Rattle.acceptance.specs.Guard.{width_of}
use Rattle.acceptance.specs.Acceptance.{acceptance, limits_refusal}
use Rattle.judging.specs.Brackets.{bracketed}
use Rattle.judging.specs.Verdicts.{verdict_of, judge_refusal}
use Rattle.judging.specs.declared.answers.Verdict.{Verdict}
use Rattle.judging.specs.declared.answers.Verdict.TheVariants.{Pass, ConditionalPass, ConditionalFail, Fail}

-- what a requirement's record has beside class and characteristic, which play no part in judging: both are 1 here
abbrev pub requiring : Option ℤ → Option ℤ → ℕ → ℤ → ℤ → ℤ → RequirementRow
requiring l u c m n v = record { class = pos 1; characteristic = pos 1; lower = l; upper = u; letter = c; first = m; second = n; mode = v }

-- a figure: what is asked, and last the answer that it has
pub data Figure : Type 0 where
  -- a state of knowledge at an offset: floor and ceiling
  at_offset : Answers → ℤ → ℕ → ℕ → Figure
  -- a state of knowledge, a requirement and a reading: floor and ceiling of the bracket
  bracket_on : Answers → RequirementRow → ℤ → ℕ → ℕ → Figure
  -- a state of knowledge and a requirement: lower and upper acceptance limit
  accepting : Answers → RequirementRow → Option ℤ → Option ℤ → Figure
  -- a state of knowledge and a requirement: why there are no acceptance limits
  refusing : Answers → RequirementRow → Refusal → Figure
  -- a requirement, an expanded uncertainty and a reading: the verdict, whatever the state of knowledge
  verdict_on : RequirementRow → ℤ → ℤ → Verdict → Figure
  -- hundredths of an expanded uncertainty: the width of the guard band
  width_for : ℤ → ℤ → ℤ → Figure

-- a requirement can be made of the record, and P holds of every one that is
abbrev pub OfMade : RequirementRow → (Requirement → Type 0) → Type 0
OfMade w P = (requirement_refusal w ≡ None) × ((q : Requirement) → HoldsRow w q → P q)

-- what a figure says; the expanded uncertainty plays no part under the shares rule, and is 0
abbrev pub Holds : Figure → Type 0
Holds (at_offset k x low high) = (k.floor x ≡ low) × (k.ceiling x ≡ high)
Holds (bracket_on k w y low high) = OfMade w (λ q. bracketed k q.tolerance y ≡ record { floor = low; ceiling = high })
Holds (accepting k w low high) = OfMade w (λ q. (limits_refusal q (pos 0) k ≡ None) × (acceptance q (pos 0) k ≡ Some (record { lower = low; upper = high })))
Holds (refusing k w e) = OfMade w (λ q. limits_refusal q (pos 0) k ≡ Some e)
Holds (verdict_on w U y v) = OfMade w (λ q. (k : Answers) → (judge_refusal q U y k ≡ None) × (verdict_of q U y k ≡ v))
Holds (width_for r U w) = width_of (Multiple r) U ≡ w

abbrev pub AllHold : List Figure → Type 0
AllHold [] = Unit {0}
AllHold (f ∷ fs) = Holds f × AllHold fs

-- limits 4,950 and 5,030, a guard band of the whole expanded uncertainty, four verdicts
abbrev pub four_way : RequirementRow
four_way = requiring (Some (pos 4950)) (Some (pos 5030)) letter_M (pos 100) (pos 0) (pos 4)

-- upper limit 1,000 alone, with this share of risk
abbrev pub upper_share : ℤ → RequirementRow
upper_share p = requiring None (Some (pos 1000)) letter_P (pos 0) p (pos 2)

-- lower limit 0 and this upper limit, with 25,000 millionths of risk on either side
abbrev pub two_shares : ℤ → RequirementRow
two_shares u = requiring (Some (pos 0)) (Some u) letter_P (pos 25000) (pos 25000) (pos 2)

abbrev pub figures : List Figure
figures =
    at_offset (rectangular 3) (pos 1) 666666 666667
    ∷ at_offset (rectangular 3) (neg_ℤ (pos 3)) 0 0
    ∷ at_offset (normal 200) (pos 500) 993785 994098
    ∷ at_offset (normal 900) (pos 1700) 970473 970787
    ∷ at_offset (shifted (pos 4) (rectangular 10)) (neg_ℤ (pos 4)) 500000 500000
    ∷ bracket_on (normal 5) four_way (pos 5020) 977210 977558
    ∷ accepting (rectangular 100) (upper_share (pos 50000)) None (Some (pos 910))
    ∷ accepting (normal 100) (upper_share (pos 50000)) None (Some (pos 835))
    ∷ accepting (normal 100) (upper_share (pos 35)) None (Some (pos 600))
    ∷ refusing (normal 100) (upper_share (pos 34)) NoOffset
    ∷ accepting (rectangular 100) (two_shares (pos 1000)) (Some (pos 95)) (Some (pos 905))
    ∷ refusing (rectangular 100) (two_shares (pos 150)) NothingAcceptable
    ∷ verdict_on four_way (pos 10) (pos 5020) Pass
    ∷ verdict_on four_way (pos 10) (pos 5021) ConditionalPass
    ∷ verdict_on four_way (pos 10) (pos 5030) ConditionalPass
    ∷ verdict_on four_way (pos 10) (pos 5031) ConditionalFail
    ∷ verdict_on four_way (pos 10) (pos 5040) ConditionalFail
    ∷ verdict_on four_way (pos 10) (pos 5041) Fail
    ∷ width_for (pos 33) (pos 10) (pos 4)
    ∷ width_for (neg_ℤ (pos 33)) (pos 10) (neg_ℤ (pos 3))
    ∷ []
