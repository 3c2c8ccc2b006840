-- What bytes between quotes say, one after the other.
use Rattle.std.specs.Prelude.{◌≡◌, ℕ, ◌+◌, ◌<◌, ◌≤◌, List, ◌∷◌, length, drop, slice_index}
use Rattle.text.specs.Content.{singled}

-- the n bytes from i on say the byte at i, and the bytes after them say what comes next
pub record SaysOne (bs : List ℕ) (i n : ℕ) : Type 0 where
  pub some : 0 < n
  pub within : i + n ≤ length bs
  pub next : singled (drop i bs) ≡ slice_index bs i ∷ singled (drop (i + n) bs)
