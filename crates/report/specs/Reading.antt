-- How a text reads: its records by the contents of their fields, and the refusal that ends it, if any.
use Rattle.std.specs.Prelude.{ℕ, ◌+◌, ◌<◌, ◌≤◌, List, [], ◌∷◌, map, length, Some, None, Option}
use Rattle.faults.specs.declared.Fault.{Fault}
use Rattle.faults.specs.declared.Refusal.{Refusal}
use Rattle.faults.specs.declared.Refusal.TheVariants.{TextTooLong}
use Rattle.faults.specs.Faults.{direct}
use Rattle.text.specs.Content.{saying}
use Rattle.text.specs.Grammar.{Form}
use Rattle.text.specs.Reading.{longest}
use Rattle.text.specs.Records.{First, Broken}

-- what is left of a text after n records: nothing; a record that breaks at its k-th field; or a record, and what comes after it
pub data ReadsOn : ℕ → List ℕ → List (List (List ℕ)) → Option Fault → Type 0 where
  at_end : {n : ℕ} → ReadsOn n [] [] None
  breaks_off : {n : ℕ} {bs : List ℕ} (e : Refusal) (k : ℕ) → Broken e k bs → ReadsOn n bs [] (Some (record { refusal = e; «record» = n + 1; field = k }))
  goes_on : {n : ℕ} {bs after : List ℕ} {rs : List (List (List ℕ))} {end : Option Fault} (fs : List Form) → First fs after bs → ReadsOn (n + 1) after rs end → ReadsOn n bs (map saying fs ∷ rs) end

-- a whole text: too long to be read, or read from its first record on
pub data Reads (text : List ℕ) : List (List (List ℕ)) → Option Fault → Type 0 where
  too_long : longest < length text → Reads text [] (Some (direct TextTooLong))
  from_start : {rs : List (List (List ℕ))} {end : Option Fault} → length text ≤ longest → ReadsOn 0 text rs end → Reads text rs end
