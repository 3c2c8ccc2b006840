-- The least offset that brings the upper side's risk within its share, and the greatest that does so for the lower side.
use Rattle.std.specs.Prelude.{ℕ, zero, suc, ◌-◌, Bool, cond, ℤ, pos, ◌+ℤ◌, ◌-ℤ◌, Some, None, Option, nat_le}
use Rattle.std.specs.Option.{option_map}
use Rattle.knowledge.specs.Millionths.{million}
use Rattle.knowledge.specs.Offsets.{least, greatest}
use Rattle.knowledge.specs.Knowledge.{Answers}
use Rattle.acceptance.specs.declared.search.Side.{Side}
use Rattle.acceptance.specs.declared.search.Side.TheVariants.{Lower, Upper}

-- the earlier number where there is one, else n if it passes
abbrev pub or_else : Option ℕ → Bool → ℕ → Option ℕ
or_else None passes n = cond passes (Some n) None
or_else (Some i) passes n = Some i

-- the least number below n that passes the test
unfoldable pub first_below : (ℕ → Bool) → ℕ → Option ℕ
first_below test zero = None
first_below test (suc n) = or_else (first_below test n) (test n) n

-- the offsets, counted from 0: ascending for the upper side, descending for the lower
abbrev pub offset_at : Side → ℕ → ℤ
offset_at Lower i = greatest -ℤ pos i
offset_at Upper i = least +ℤ pos i

-- with the limit at such an offset, the ceiling stays within the lower share, or the floor reaches a million less the upper share
abbrev pub keeps_share : Answers → Side → ℕ → ℕ → Bool
keeps_share k Lower share i = nat_le (k.ceiling (offset_at Lower i)) share
keeps_share k Upper share i = nat_le (million - share) (k.floor (offset_at Upper i))

-- the least offset whose floor reaches a million less the share
abbrev pub least_offset : Answers → ℕ → Option ℤ
least_offset k share = option_map (offset_at Upper) (first_below (keeps_share k Upper share) 4000001)

-- the greatest offset whose ceiling stays within the share
abbrev pub greatest_offset : Answers → ℕ → Option ℤ
greatest_offset k share = option_map (offset_at Lower) (first_below (keeps_share k Lower share) 4000001)
