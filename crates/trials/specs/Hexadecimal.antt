-- Bytes in hexadecimal.
use Rattle.std.specs.Prelude.{ℕ, ◌+◌, ◌-◌, ◌*◌, ◌&&◌, nat_le, cond, List, [], ◌∷◌}

-- the value of a digit from 0 to 9 or from a to f; any other byte counts as 0
abbrev pub digit_value : ℕ → ℕ
digit_value d = cond (nat_le 48 d && nat_le d 57) (d - 48) (cond (nat_le 97 d && nat_le d 102) (d - 87) 0)

-- two digits spell a byte; a digit left over spells none
abbrev pub spelled_bytes : List ℕ → List ℕ
spelled_bytes [] = []
spelled_bytes (digit ∷ []) = []
spelled_bytes (high ∷ low ∷ digits) = (digit_value high * 16 + digit_value low) ∷ spelled_bytes digits
