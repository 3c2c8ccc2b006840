-- What going through the first record of a text gives.
use Rattle.std.specs.Prelude.{◌≡◌, ℕ, List, length, Ok, Err, Result}
use Rattle.faults.specs.declared.Fault.{Fault}
use Rattle.text.specs.declared.field.Placed.{Placed}
use Rattle.text.specs.declared.reader.methods.Row.{Row}
use Rattle.text.specs.Fronts.{forms, Numbered, laid}
use Rattle.text.specs.Records.{Begins, Breaks}

-- bs begins with record n, whose fields are laid over the list, or that record breaks at a field
abbrev pub Split : ℕ → List ℕ → List Placed → List Placed → Result Row Fault → Type 0
Split n bs old new (Ok row) =
    (ps : List Placed) × Numbered n 1 ps × Begins (forms ps) row.rest.now bs × (row.count ≡ length ps) × (new ≡ laid ps old)
Split n bs old new (Err f) = (f.«record» ≡ n) × Breaks f.refusal f.field bs
