-- What a placed field says, and what is answered of it.
use Rattle.std.specs.Prelude.{◌≡◌, ℕ, List, Ok, Err, Result}
use Rattle.faults.specs.declared.Refusal.{Refusal}
use Rattle.faults.specs.declared.Fault.{Fault}
use Rattle.text.specs.declared.field.Placed.{Placed}
use Rattle.text.specs.Content.{content_of}
use Rattle.text.specs.Faults.{fault_at}

-- the content of the field
abbrev pub said : Placed → List ℕ
said p = content_of p.content

-- a value with Q where P holds, and where it does not, the refusal e of this field
abbrev pub Told : {T : Type 0} → Placed → Result T Fault → Type 0 → (T → Type 0) → Refusal → Type 0
Told p (Ok x) P Q e = P × Q x
Told p (Err f) P Q e = (P → ⊥) × (f ≡ fault_at p e)
