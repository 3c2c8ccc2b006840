-- The field at the front of a text, what ends it, and what comes after.
use Rattle.std.specs.Prelude.{◌≡◌, ℕ, ◌+◌, List, [], ◌∷◌, ◌++◌, map, length, take, drop}
use Rattle.text.specs.declared.field.Field.{Field}
use Rattle.text.specs.declared.field.Field.TheVariants.{Bare, Quoted}
use Rattle.text.specs.declared.field.Placed.{Placed}
use Rattle.text.specs.declared.machine.Ending.{Ending}
use Rattle.text.specs.declared.machine.Ending.TheVariants.{Comma, Line, Text}
use Rattle.text.specs.Grammar.{COMMA, CR, LF, Form, non_escaped, escaped, IsField, spelling}

-- a field of the code as one of the grammar
abbrev pub form : Field → Form
form (Bare bs) = non_escaped bs.now
form (Quoted bs) = escaped bs.now

abbrev pub forms : List Placed → List Form
forms ps = map (λ p. form p.content) ps

-- the fields of record n, from the k-th on, carry their numbers
abbrev pub Numbered : ℕ → ℕ → List Placed → Type 0
Numbered n k [] = Unit {0}
Numbered n k (p ∷ ps) = (p.«record» ≡ n) × (p.field ≡ k) × Numbered n (k + 1) ps

-- the list with ps laid over its front, as far as it reaches
abbrev pub laid : List Placed → List Placed → List Placed
laid ps old = take (length old) ps ++ drop (length ps) old

-- bs is what ends a field, and then `after`
abbrev pub Ended : Ending → List ℕ → List ℕ → Type 0
Ended Comma after bs = bs ≡ COMMA ∷ after
Ended Line after bs = bs ≡ CR ∷ LF ∷ after
Ended Text after bs = (bs ≡ []) × (after ≡ [])

-- bs is the field f, what ends it, and then `after`
pub record Leads (f : Form) (e : Ending) (after bs : List ℕ) : Type 0 where
  pub is_field : IsField f
  pub tail : List ℕ
  pub ended : Ended e after tail
  pub spelt : bs ≡ spelling f ++ tail
