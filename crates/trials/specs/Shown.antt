-- How limits, faults and answers are written.
use Rattle.std.specs.Prelude.{ℕ, ℤ, List, ◌++◌, Option, Some, None, Result, Ok, Err, codes}
use Rattle.std.specs.Fmt.{decimal, signed_decimal}
use Rattle.faults.specs.declared.Fault.{Fault}
use Rattle.faults.specs.Numbers.{number}

-- a limit's value, or that there is none
abbrev pub limit_text : Option ℤ → List ℕ
limit_text (Some value) = signed_decimal value
limit_text None = codes "none"

-- a fault's numbers: refusal, record and field
abbrev pub fault_text : Fault → List ℕ
fault_text fault = codes "!" ++ decimal (number fault.refusal) ++ codes "," ++ decimal fault.record ++ codes "," ++ decimal fault.field

-- what is shown of a value, or a fault's numbers
abbrev pub answer_text : {T : Type 0} → (T → Option (List ℕ)) → Result T Fault → Option (List ℕ)
answer_text shown (Ok value) = shown value
answer_text shown (Err fault) = Some (fault_text fault)
