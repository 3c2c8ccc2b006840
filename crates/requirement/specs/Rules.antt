-- Decision rules: the letters that name them, the numbers that they take, and the modes that go with them.
use Rattle.std.specs.Prelude.{ℕ, Bool, true, false, cond, ◌&&◌, ◌||◌, ℤ, pos, negsuc, neg_ℤ, is_some, Some, None, Option, ◌==◌, int_le, unsigned_abs}
use Rattle.faults.specs.Ranges.{from_to}
use Rattle.requirement.specs.declared.rules.Rule.{Rule}
use Rattle.requirement.specs.declared.rules.Rule.TheVariants.{Simple, Guard, Multiple, Shares}
use Rattle.requirement.specs.declared.rules.Mode.{Mode}
use Rattle.requirement.specs.declared.rules.Mode.TheVariants.{Two, Four}

-- the letters S, G, M and P, by their codes
abbrev pub letter_S : ℕ
letter_S = 83

abbrev pub letter_G : ℕ
letter_G = 71

abbrev pub letter_M : ℕ
letter_M = 77

abbrev pub letter_P : ℕ
letter_P = 80

abbrev pub known_letter : ℕ → Bool
known_letter c = c == letter_S || (c == letter_G || (c == letter_M || c == letter_P))

abbrev pub nought : ℤ → Bool
nought x = from_to (pos 0) (pos 0) x

-- a share of the risk, in millionths: at most one half
abbrev pub is_share : ℤ → Bool
is_share x = from_to (pos 0) (pos 500000) x

-- the rule that a letter and two numbers make; a number that the rule has no use for is 0
abbrev pub rule_of : ℕ → ℤ → ℤ → Option Rule
rule_of c first second =
    cond (c == letter_S && (nought first && nought second)) (Some Simple)
    (cond (c == letter_G && nought second) (Some (Guard first))
    (cond (c == letter_M && nought second) (Some (Multiple first))
    (cond (c == letter_P && (is_share first && is_share second)) (Some (Shares (unsigned_abs first) (unsigned_abs second))) None)))

-- the numbers are such as the rule takes
abbrev pub numbers_fit : Rule → Bool
numbers_fit Simple = true
numbers_fit (Guard w) = from_to (neg_ℤ (pos 100000)) (pos 100000) w
numbers_fit (Multiple r) = from_to (neg_ℤ (pos 200)) (pos 200) r
numbers_fit (Shares lower upper) = is_share (pos lower) && is_share (pos upper)

-- an absent limit has no share of the risk
abbrev pub fits_limits : Rule → Option ℤ → Option ℤ → Bool
fits_limits Simple l u = true
fits_limits (Guard w) l u = true
fits_limits (Multiple r) l u = true
fits_limits (Shares lower upper) l u = (is_some l || lower == 0) && (is_some u || upper == 0)

-- the mode that a number names, 2 or 4
abbrev pub mode_of : ℤ → Option Mode
mode_of (pos n) = cond (n == 2) (Some Two) (cond (n == 4) (Some Four) None)
mode_of (negsuc n) = None

-- four verdicts go with a guard band that is not negative, and not with shares
abbrev pub fits_mode : Rule → Mode → Bool
fits_mode rule Two = true
fits_mode Simple Four = true
fits_mode (Guard w) Four = int_le (pos 0) w
fits_mode (Multiple r) Four = int_le (pos 0) r
fits_mode (Shares lower upper) Four = false
