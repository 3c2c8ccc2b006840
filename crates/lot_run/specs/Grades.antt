-- Grades: the sheet of the worked one, what is entered of one, and what a lot's book notes of it.
use Rattle.std.specs.Prelude.{◌≡◌, List, [], ◌∷◌, ℤ, pos}
use Rattle.knowledge.specs.Knowledge.{Rules}
use Rattle.rectangular.specs.Rectangular.{rectangular}
use Rattle.figures.specs.Grades.{grade_row}
use Rattle.requirement.specs.Making.{HoldsRow}
use Rattle.requirement.specs.declared.requirements.Requirement.{Requirement}
use Rattle.lot.specs.Notes.{Note}
use Rattle.lot.specs.declared.items.ItemFields.{ItemFields}

-- a sheet with the requirement made of the worked grade's record, and no other
abbrev pub GradeSheet : List Requirement → Type 0
GradeSheet sheet = (q : Requirement) × HoldsRow grade_row q × (sheet ≡ q ∷ [])

-- an item of class 1 and characteristic 1: its number and its reading; its expanded uncertainty, which plays no part, is 0
abbrev pub grade : ℤ → ℤ → ItemFields
grade n y = record { number = n; class = pos 1; characteristic = pos 1; expanded = pos 0; reading = y }

-- the note of a grade that is known to within 100
abbrev pub grade_note : Requirement → Rules (rectangular 100) → ℤ → ℤ → Note
grade_note q rules n y = record { fields = grade n y; requirement = q; knowledge = rectangular 100; rules = rules }
