-- What is required of a grade.
use Rattle.std.specs.Prelude.{pos, Some, None}
use Rattle.requirement.specs.Rules.{letter_P}
use Rattle.requirement.specs.declared.rows.RequirementRow.{RequirementRow}

-- class 1, characteristic 1, an upper limit of 1,000 alone, at most 50,000 millionths of risk, two verdicts
abbrev pub grade_row : RequirementRow
grade_row = record { class = pos 1; characteristic = pos 1; lower = None; upper = Some (pos 1000); letter = letter_P; first = pos 0; second = pos 50000; mode = pos 2 }
