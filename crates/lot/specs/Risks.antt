-- What the two risk sums over passes guarantee, for any choice of an admitted distribution for each of them.
use Rattle.std.specs.Prelude.{◌≡◌, ℕ, ◌+◌, ◌-◌, ◌*◌, ◌≤◌, List, [], ◌∷◌}
use Rattle.knowledge.specs.Millionths.{million}
use Rattle.knowledge.specs.Distributions.{Distribution, Admitted}
use Rattle.judging.specs.Guarantee.{conforming}
use Rattle.lot.specs.Notes.{Note, judgement}

-- one admitted distribution for each note
abbrev pub Choice : List Note → Type 0
Choice [] = Unit {0}
Choice (n ∷ ns) = ((d : Distribution) × Admitted n.knowledge d) × Choice ns

-- a note's parts at risk: those that do not conform. Its risk is this number ÷ parts
abbrev pub at_risk : Note → Distribution → ℕ
at_risk n d = d.parts - conforming d n.requirement.tolerance n.fields.reading

-- the product of the chosen distributions' parts
abbrev pub all_parts : (ns : List Note) → Choice ns → ℕ
all_parts [] c = 1
all_parts (n ∷ ns) c = c.0.0.parts * all_parts ns c.1

-- the sum of the notes' risks, over that product
abbrev pub all_risk : (ns : List Note) → Choice ns → ℕ
all_risk [] c = 0
all_risk (n ∷ ns) c = at_risk n c.0.0 * all_parts ns c.1 + c.0.0.parts * all_risk ns c.1

-- the sums of a million less ceiling and of a million less floor, and of the widths
abbrev pub least_risks : List Note → ℕ
least_risks [] = 0
least_risks (n ∷ ns) = (million - (judgement n).bracket.ceiling) + least_risks ns

abbrev pub greatest_risks : List Note → ℕ
greatest_risks [] = 0
greatest_risks (n ∷ ns) = (million - (judgement n).bracket.floor) + greatest_risks ns

abbrev pub widths : List Note → ℕ
widths [] = 0
widths (n ∷ ns) = n.knowledge.width + widths ns

-- what two sums guarantee of the notes of passes: they are these sums; whatever distributions are chosen, the exact sum of the
-- risks, in millionths, is at least the lesser and at most the greater; and they differ by at most twice the widths
pub record SumsHold (ns : List Note) (lesser greater : ℕ) : Type 0 where
  pub lesser_is : lesser ≡ least_risks ns
  pub greater_is : greater ≡ greatest_risks ns
  pub over_lesser : (c : Choice ns) → lesser * all_parts ns c ≤ million * all_risk ns c
  pub under_greater : (c : Choice ns) → million * all_risk ns c ≤ greater * all_parts ns c
  pub narrow : greater ≤ lesser + 2 * widths ns
