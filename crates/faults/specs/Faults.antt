-- A fault: a refusal with the record and the field that it concerns.
use Rattle.std.specs.Prelude.{◌≡◌, Bool, true, false, Some, None, Ok, Err, Option, Result}
use Rattle.faults.specs.declared.Refusal.{Refusal}
use Rattle.faults.specs.declared.Fault.{Fault}

-- the fault of a direct call: there is no record text, so record and field are 0
abbrev pub direct : Refusal → Fault
direct r = record { refusal = r; «record» = 0; field = 0 }

-- the checks of a call in their order: the refusal of the first that fails, none where all pass
abbrev pub check : Bool → Refusal → Option Refusal → Option Refusal
check true e later = later
check false e later = Some e

-- the earlier refusal, and the later one where there is no earlier one
abbrev pub first_of : Option Refusal → Option Refusal → Option Refusal
first_of None later = later
first_of (Some e) later = Some e

-- a call that refuses directly where its checks say so, and else answers a value of which Q holds
abbrev pub AnswersBy : {T : Type 0} → Option Refusal → Result T Fault → (T → Type 0) → Type 0
AnswersBy None (Ok x) Q = Q x
AnswersBy None (Err f) Q = ⊥
AnswersBy (Some e) (Ok x) Q = ⊥
AnswersBy (Some e) (Err f) Q = f ≡ direct e
