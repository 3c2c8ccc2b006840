-- One entry in an empty table over a list.
use Rattle.std.specs.Prelude.{◌≡◌, ℕ, List, ◌∷◌, length, drop, Ok, Err, Result}
use Rattle.table.specs.declared.Refused.{Refused}
use Rattle.table.specs.declared.Refused.TheVariants.{Full}

-- it stands in the first place and every other place is as it was; or the list has no place
abbrev pub Entered : {E : Type 0} → List E → E → Result ℕ Refused → List E → Type 0
Entered xs e (Ok i) xs' = (i ≡ 0) × (xs' ≡ e ∷ drop 1 xs)
Entered xs e (Err why) xs' = (why ≡ Full) × (length xs ≡ 0) × (xs' ≡ xs)
