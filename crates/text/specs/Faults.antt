-- The fault of a field.
use Rattle.faults.specs.declared.Refusal.{Refusal}
use Rattle.faults.specs.declared.Fault.{Fault}
use Rattle.text.specs.declared.field.Placed.{Placed}

-- the fault that names the field's place
abbrev pub fault_at : Placed → Refusal → Fault
fault_at p e = record { refusal = e; «record» = p.«record»; field = p.field }
