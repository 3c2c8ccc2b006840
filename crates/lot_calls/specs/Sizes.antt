-- The rows of a lot, and how great a row can be.
use Rattle.std.specs.Prelude.{ℕ, ◌-◌, ◌*◌, ◌≤◌, List, [], ◌∷◌, map, slice_index_or}
use Rattle.knowledge.specs.Millionths.{million}
use Rattle.lot.specs.Rows.{row_of}
use Rattle.lot.specs.declared.items.Item.{Item}
use Rattle.lot.specs.declared.items.Row.{Row}
use Rattle.lot_calls.specs.declared.rows.Rows.{Rows}

-- the row of a class from 1 to 9
abbrev pub row_for : Rows → ℕ → Row
row_for rows c = slice_index_or rows.by_class (c - 1) (row_of 1 [])

-- the rows of what stands
abbrev pub rows_of : List Item → Rows
rows_of items = record { by_class = map (λ c. row_of c items) (1 ∷ 2 ∷ 3 ∷ 4 ∷ 5 ∷ 6 ∷ 7 ∷ 8 ∷ 9 ∷ []) }

-- a row of at most n items: each risk is at most a million
pub record RowOfAtMost (n : ℕ) (r : Row) : Type 0 where
  pub passes_few : r.passes ≤ n
  pub conditional_passes_few : r.conditional_passes ≤ n
  pub conditional_fails_few : r.conditional_fails ≤ n
  pub fails_few : r.fails ≤ n
  pub lesser_few : r.lesser ≤ n * million
  pub greater_few : r.greater ≤ n * million

-- the row a holds the row b: no part of b is greater
pub record Contains (a b : Row) : Type 0 where
  pub passes_in : b.passes ≤ a.passes
  pub conditional_passes_in : b.conditional_passes ≤ a.conditional_passes
  pub conditional_fails_in : b.conditional_fails ≤ a.conditional_fails
  pub fails_in : b.fails ≤ a.fails
  pub lesser_in : b.lesser ≤ a.lesser
  pub greater_in : b.greater ≤ a.greater
