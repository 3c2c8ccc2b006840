-- The rules that every requirement keeps.
use Rattle.std.specs.Prelude.{Bool, ◌&&◌, ℤ, pos, Option}
use Rattle.faults.specs.Ranges.{from_to}
use Rattle.requirement.specs.Rules.{numbers_fit, fits_limits, fits_mode}
use Rattle.requirement.specs.declared.rules.Rule.{Rule}
use Rattle.requirement.specs.declared.rules.Mode.{Mode}

-- classes run from 1 to 9, characteristics from 1 to 20
abbrev pub is_class : ℤ → Bool
is_class x = from_to (pos 1) (pos 9) x

abbrev pub is_characteristic : ℤ → Bool
is_characteristic x = from_to (pos 1) (pos 20) x

-- a rule, its numbers, the limits and the mode go together
abbrev pub together : Rule → Option ℤ → Option ℤ → Mode → Bool
together rule l u mode = numbers_fit rule && (fits_limits rule l u && fits_mode rule mode)
