-- Tables: the entries that stand, and how many may stand.
use Rattle.std.specs.Prelude.{ℕ, min, List, length, take, drop}
use Rattle.table.specs.declared.Table.{Table}

-- entries E under keys K; the rest of a table's type is how E gives its key and how keys compare
module _ {E K : Type 0} {entry ord eq partial : _} where
  -- the entries that stand in the table, in the first places of the list
  abbrev pub standing : Table E K entry ord eq partial → List E
  standing t = take t.count t.places.now

  -- what the list holds in the places after them
  abbrev pub beyond : Table E K entry ord eq partial → List E
  beyond t = drop t.count t.places.now

  -- how many entries may stand: as many as the list has places, and no more than the limit
  abbrev pub capacity : Table E K entry ord eq partial → ℕ
  capacity t = min t.limit (length t.places.now)
