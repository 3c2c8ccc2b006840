-- Making a requirement from what a record has: what is refused, and what a requirement that was made holds.
use Rattle.std.specs.Prelude.{◌≡◌, Bool, true, false, ℤ, pos, is_some, Some, None, Option}
use Rattle.faults.specs.declared.Refusal.{Refusal}
use Rattle.faults.specs.declared.Refusal.TheVariants.{OutOfRange, UnknownLetter, AgainstRule}
use Rattle.faults.specs.Faults.{check, first_of}
use Rattle.requirement.specs.Limits.{in_reach, limit_in_reach, tolerance_refusal}
use Rattle.requirement.specs.Rules.{rule_of, mode_of, known_letter}
use Rattle.requirement.specs.Requirements.{is_class, is_characteristic, together}
use Rattle.requirement.specs.declared.rules.Rule.{Rule}
use Rattle.requirement.specs.declared.rules.Mode.{Mode}
use Rattle.requirement.specs.declared.rows.RequirementRow.{RequirementRow}
use Rattle.requirement.specs.declared.requirements.Requirement.{Requirement}

-- the class and the characteristic are such
pub record Placed (w : RequirementRow) : Type 0 where
  pub class_in : is_class w.class ≡ true
  pub characteristic_in : is_characteristic w.characteristic ≡ true

-- the fields from left to right: the first four, then the letter and its numbers, then the mode
abbrev pub place_refusal : RequirementRow → Option Refusal
place_refusal w =
    check (is_class w.class) OutOfRange
    (check (is_characteristic w.characteristic) OutOfRange (check (limit_in_reach w.lower) OutOfRange (check (limit_in_reach w.upper) OutOfRange None)))

abbrev pub rule_refusal : RequirementRow → Option Refusal
rule_refusal w = check (known_letter w.letter) UnknownLetter (check (in_reach w.first) OutOfRange (check (in_reach w.second) OutOfRange None))

abbrev pub mode_refusal : RequirementRow → Option Refusal
mode_refusal w = check (is_some (mode_of w.mode)) OutOfRange None

-- a rule and a mode, if both are there, go together with the limits
abbrev pub suits : Option Rule → Option ℤ → Option ℤ → Option Mode → Bool
suits None l u mode = false
suits (Some rule) l u None = false
suits (Some rule) l u (Some mode) = together rule l u mode

-- the numbers or the mode against the rule
abbrev pub suit_refusal : RequirementRow → Option Refusal
suit_refusal w = check (suits (rule_of w.letter w.first w.second) w.lower w.upper (mode_of w.mode)) AgainstRule None

-- what is refused, in this order: the fields, then the limits together, then the numbers and the mode against the rule
abbrev pub requirement_refusal : RequirementRow → Option Refusal
requirement_refusal w =
    first_of (place_refusal w) (first_of (rule_refusal w) (first_of (mode_refusal w) (first_of (tolerance_refusal w.lower w.upper) (suit_refusal w))))

-- a requirement that was made holds exactly what its making was given
pub record HoldsRow (w : RequirementRow) (q : Requirement) : Type 0 where
  pub class_is : pos q.class ≡ w.class
  pub characteristic_is : pos q.characteristic ≡ w.characteristic
  pub lower_is : q.tolerance.lower ≡ w.lower
  pub upper_is : q.tolerance.upper ≡ w.upper
  pub rule_is : Some q.rule ≡ rule_of w.letter w.first w.second
  pub mode_is : Some q.mode ≡ mode_of w.mode
