-- How a fault is written.
use Rattle.std.specs.Prelude.{ℕ, List, ◌++◌, codes}
use Rattle.std.specs.Fmt.{decimal}
use Rattle.faults.specs.declared.Fault.{Fault}
use Rattle.faults.specs.Numbers.{number}

-- its published number, then its record and field
abbrev pub fault_text : Fault → List ℕ
fault_text f = codes "refusal " ++ decimal (number f.refusal) ++ codes ", record " ++ decimal f.record ++ codes ", field " ++ decimal f.field
