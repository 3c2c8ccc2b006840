-- Fields that carry their numbers: the answer is a function of the record's number and the contents alone.
use Rattle.std.proofs.Common.{◌≡◌, ℕ, ◌+◌, List, [], ◌∷◌, map, refl, ap}
use Rattle.text.specs.declared.field.Placed.{Placed}
use Rattle.text.specs.Fronts.{Numbered}
use Rattle.fields.specs.Answers.{said}
use Rattle.records.specs.Cells.{cells, counted}
use Rattle.records.specs.Entries.{answer_of, meaning}

pub cells_counted : (n k : ℕ) (ps : List Placed) → Numbered n k ps → cells ps ≡ counted n k (map said ps)
cells_counted n k [] h = refl
cells_counted n k (p ∷ ps) h =
    let record_is = h.0 in
    let field_is = h.1 in
    let rest = cells_counted n (k + 1) ps h.2 in
    λ i. record { record_number = record_is i; field_number = field_is i; words = said p } ∷ rest i

pub numbered_meaning : (n : ℕ) (ps : List Placed) → Numbered n 1 ps → answer_of n (cells ps) ≡ meaning n (map said ps)
numbered_meaning n ps h = ap (answer_of n) (cells_counted n 1 ps h)
