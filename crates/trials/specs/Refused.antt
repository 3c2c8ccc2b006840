-- The numbers of refusals.
use Rattle.std.specs.Prelude.{ℕ, Option, Some, None, Result, Ok, Err}
use Rattle.faults.specs.declared.Fault.{Fault}
use Rattle.faults.specs.Numbers.{number}

-- the number of a refusal, where a call was refused
abbrev pub number_of : {T : Type 0} → Result T Fault → Option ℕ
number_of (Ok _) = None
number_of (Err fault) = Some (number fault.refusal)
