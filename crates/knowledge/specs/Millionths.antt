-- The unit of probabilities, and quotients that are rounded to it.
use Rattle.std.specs.Prelude.{ℕ, ◌+◌, ◌/◌, ◌%◌, min}

-- one, in millionths
abbrev pub million : ℕ
million = 1000000

-- the quotient rounded down
abbrev pub rounded_down : ℕ → ℕ → ℕ
rounded_down n d = n / d

-- the quotient rounded up: one more where a remainder is left
abbrev pub rounded_up : ℕ → ℕ → ℕ
rounded_up n d = n / d + min 1 (n % d)
