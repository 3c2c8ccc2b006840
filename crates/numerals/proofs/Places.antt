-- Digits by their places, and the decimal form made of them.
use Rattle.std.proofs.Common.{◌≡◌, rules, ℕ, zero, suc, ◌+◌, ◌-◌, ◌*◌, ◌/◌, ◌%◌, ◌^◌, ◌<◌, ◌≤◌, Bool, true, false, cond, List, [], ◌∷◌, ◌++◌, length, get_or, take, drop, set, decimal, sym, refl, ap, ◌∙◌, subst, append_assoc, append-nil, mod-lt, mod-eq_of_lt, mul_comm, div-lt_iff_lt-mul, pow-suc, le-div_iff_mul-le, div-le_self, div-one, arith, length-set}
use native.Mathlib.Nat.{pow-zero, div-div-eq-div-mul, mod-mod, div-eq_of_lt}
use lib.Arith.{mod-mul, digits_div, digits_mod}
use Rattle.std.proofs.lemmas.Fmt.{decimal_digit, decimal_step}
use Rattle.std.proofs.lemmas.List.{take_more, take_more_set, take_all, get_or-set_other}
use Rattle.std.proofs.lemmas.Slice.{between_to_end}
use Rattle.std.proofs.lemmas.Bool.{true≢false}
use Rattle.numerals.specs.Digits.{lowest_digits, Skips}

pub length_lowest : (k n : ℕ) → length (lowest_digits k n) ≡ k
unfolding lowest_digits
length_lowest zero n = refl
length_lowest (suc k) n = ap suc (length_lowest k n)

lowest_at : (k i j n : ℕ) → i + suc j ≡ k → get_or (lowest_digits k n) i 0 ≡ 48 + n / 10 ^ j % 10
unfolding lowest_digits
lowest_at zero i j n e = absurd (omega (arith, e))
lowest_at (suc k) zero j n e = let s : k ≡ j = omega (arith, e) in ap (λ m. 48 + n / 10 ^ m % 10) s
lowest_at (suc k) (suc i) j n e = lowest_at k i j n (omega (arith, e))

drop_lowest : (j z k n : ℕ) → z + k ≡ j → drop z (lowest_digits j n) ≡ lowest_digits k n
unfolding lowest_digits
drop_lowest j zero k n e = let s : j ≡ k = omega (arith, e) in ap (λ m. lowest_digits m n) s
drop_lowest zero (suc z) k n e = absurd (omega (arith, e))
drop_lowest (suc j) (suc z) k n e = drop_lowest j z k n (omega (arith, e))

pub power_some : (k : ℕ) → 0 < 10 ^ k
power_some zero = rw pow-zero (omega arith)
power_some (suc k) = rw pow-suc (omega (arith, power_some k))

next_digit : (n p : ℕ) → 0 < p → n % (10 * p) / p ≡ n / p % 10
next_digit n p some = ap (λ m. m / p) (mod-mul n (omega arith) some) ∙ digits_div (n / p % 10) (mod-lt n some)

next_rest : (n p : ℕ) → 0 < p → n % (10 * p) % p ≡ n % p
next_rest n p some = ap (λ m. m % p) (mod-mul n (omega arith) some) ∙ digits_mod (n / p % 10) (mod-lt n some)

ten_times : (k : ℕ) → 10 ^ suc k ≡ 10 * 10 ^ k
ten_times k = pow-suc 10 k ∙ mul_comm (10 ^ k) 10

-- what the places above place i leave of a number
rest_at : (n i : ℕ) → i < 11 → n % 10 ^ (11 - i) ≡ n % (10 * 10 ^ (10 - i))
rest_at n i h =
    let e : 11 - i ≡ suc (10 - i) = omega arith in
    ap (λ m. n % 10 ^ m) e ∙ ap (λ m. n % m) (ten_times (10 - i))

-- the digit at place i is that of the rest
pub digit_at : (n i rest : ℕ) → i < 11 → rest ≡ n % 10 ^ (11 - i) → rest / 10 ^ (10 - i) ≡ n / 10 ^ (10 - i) % 10
digit_at n i rest h is = ap (λ m. m / 10 ^ (10 - i)) (is ∙ rest_at n i h) ∙ next_digit n (10 ^ (10 - i)) (power_some (10 - i))

-- the rest after place i
rest_after : (n i rest : ℕ) → i < 11 → rest ≡ n % 10 ^ (11 - i) → rest % 10 ^ (10 - i) ≡ n % 10 ^ (11 - (i + 1))
rest_after n i rest h is =
    let e : 10 - i ≡ 11 - (i + 1) = omega arith in
    ap (λ m. m % 10 ^ (10 - i)) (is ∙ rest_at n i h) ∙ next_rest n (10 ^ (10 - i)) (power_some (10 - i)) ∙ ap (λ m. n % 10 ^ m) e

-- numbers that leave the same have the same lowest digits
same_lowest : (k n m : ℕ) → n % 10 ^ k ≡ m % 10 ^ k → lowest_digits k n ≡ lowest_digits k m
unfolding lowest_digits
same_lowest zero n m e = refl
same_lowest (suc k) n m e =
    let p = 10 ^ k in
    let some = power_some k in
    let alike : n % (10 * p) ≡ m % (10 * p) = ap (λ q. n % q) (sym (ten_times k)) ∙ e ∙ ap (λ q. m % q) (ten_times k) in
    let digit : n / p % 10 ≡ m / p % 10 = sym (next_digit n p some) ∙ ap (λ q. q / p) alike ∙ next_digit m p some in
    let rest : n % p ≡ m % p = sym (next_rest n p some) ∙ ap (λ q. q % p) alike ∙ next_rest m p some in
    ap (λ d. (48 + d) ∷ lowest_digits k n) digit ∙ ap (λ ds. (48 + m / p % 10) ∷ ds) (same_lowest k n m rest)

-- the digits of n before place i are written, the others are still 0, and the rest is what the others have to say
abbrev pub Written : ℕ → ℕ → List ℕ → ℕ → Type 0
Written n i ds rest = (length ds ≡ 11) × (take i ds ≡ take i (lowest_digits 11 n)) × ((k : ℕ) → i ≤ k → k < 11 → get_or ds k 0 ≡ 48) × (rest ≡ n % 10 ^ (11 - i))

-- the 0 of one more place is its digit
pub written_zero : (n i rest : ℕ) (ds : List ℕ) → i < 11 → Written n i ds rest → rest < 10 ^ (10 - i) → Written n (i + 1) ds rest
written_zero n i rest ds h w small =
    let low = lowest_digits 11 n in
    let l : i < length ds = omega (arith, w.0) in
    let m : i < length low = omega (arith, length_lowest 11 n) in
    let none : n / 10 ^ (10 - i) % 10 ≡ 0 = sym (digit_at n i rest h w.3) ∙ div-eq_of_lt small in
    let at : get_or ds i 0 ≡ get_or low i 0 = w.2 i (omega arith) h ∙ ap (λ d. 48 + d) (sym none) ∙ sym (lowest_at 11 i (10 - i) n (omega arith)) in (
      w.0,
      take_more ds i 0 l ∙ ap (λ xs. xs ++ get_or ds i 0 ∷ []) w.1 ∙ ap (λ x. take i low ++ x ∷ []) at ∙ sym (take_more low i 0 m),
      λ k more few. w.2 k (omega arith) few,
      sym (mod-eq_of_lt small) ∙ rest_after n i rest h w.3,
    )

-- the digit of one more place is written
pub written_digit : (n i rest p v : ℕ) (ds : List ℕ) → i < 11 → Written n i ds rest → p ≡ 10 ^ (10 - i) → v ≡ 48 + rest / p → Written n (i + 1) (set ds i v) (rest % p)
written_digit n i rest p v ds h w place is =
    let low = lowest_digits 11 n in
    let l : i < length ds = omega (arith, w.0) in
    let m : i < length low = omega (arith, length_lowest 11 n) in
    let digit : v ≡ 48 + n / 10 ^ (10 - i) % 10 = is ∙ ap (λ q. 48 + rest / q) place ∙ ap (λ d. 48 + d) (digit_at n i rest h w.3) in
    let at : v ≡ get_or low i 0 = digit ∙ sym (lowest_at 11 i (10 - i) n (omega arith)) in (
      length-set ds i v ∙ w.0,
      take_more_set ds i v l ∙ ap (λ xs. xs ++ v ∷ []) w.1 ∙ ap (λ x. take i low ++ x ∷ []) at ∙ sym (take_more low i 0 m),
      λ k more few. get_or-set_other ds i k v 0 (λ e. omega (arith, e)) ∙ w.2 k (omega arith) few,
      ap (λ q. rest % q) place ∙ rest_after n i rest h w.3,
    )

-- all digits are written
pub written_all : (n i rest : ℕ) (ds : List ℕ) → i ≡ 11 → Written n i ds rest → ds ≡ lowest_digits 11 n
written_all n i rest ds e w = sym (take_all i ds (omega (arith, w.0))) ∙ w.1 ∙ take_all i (lowest_digits 11 n) (omega (arith, length_lowest 11 n))

-- a number of more than k digits ends in its lowest k
pub decimal_ends : (k n : ℕ) → 10 ^ k ≤ n → n < 2 ^ 64 → decimal n ≡ decimal (n / 10 ^ k) ++ lowest_digits k n
unfolding lowest_digits
decimal_ends zero n many fits = rw (pow-zero, div-one) (sym (append-nil (decimal n)))
decimal_ends (suc k) n many fits =
    let more : 10 ^ k * 10 ≤ n = rw pow-suc at many in
    let some = power_some k in
    let q = n / 10 ^ k in
    let ten : 10 ≤ q = (le-div_iff_mul-le some).1 (omega (arith, mul_comm 10 (10 ^ k))) in
    let small : q < 2 ^ 64 = omega (arith, div-le_self n (10 ^ k)) in
    let next : q / 10 ≡ n / 10 ^ suc k = rw pow-suc (div-div-eq-div-mul n (10 ^ k) 10) in
    decimal_ends k n (omega (arith, some)) fits ∙ ap (λ xs. xs ++ lowest_digits k n) (decimal_step q ten small ∙ ap (λ m. decimal m ++ ((48 + q % 10) ∷ [])) next)
    ∙ append_assoc (decimal (n / 10 ^ suc k)) ((48 + q % 10) ∷ []) (lowest_digits k n)

-- a number of k + 1 digits is its lowest k + 1
whole : (k n : ℕ) → n < 10 ^ suc k → (0 < k → 10 ^ k ≤ n) → n < 2 ^ 64 → lowest_digits (suc k) n ≡ decimal n
unfolding lowest_digits
whole zero n few many fits =
    let small : n < 10 = few in
    let e : n / 10 ^ 0 % 10 ≡ n = omega arith in
    ap (λ m. (48 + m) ∷ []) e ∙ sym (decimal_digit n small)
whole (suc k) n few many fits =
    let p = 10 ^ suc k in
    let below : n < p * 10 = rw pow-suc at few in
    let q = n / p in
    let small : q < 10 = (div-lt_iff_lt-mul (power_some (suc k))).1 (omega (arith, mul_comm 10 p)) in
    let e : q % 10 ≡ q = mod-eq_of_lt small in
    ap (λ m. (48 + m) ∷ lowest_digits (suc k) n) e ∙ ap (λ xs. xs ++ lowest_digits (suc k) n) (sym (decimal_digit q small)) ∙ sym (decimal_ends (suc k) n (many (omega arith)) fits)

-- without its leading zeros a number is in its decimal form
pub decimal_from_digits : (n z : ℕ) → Skips n z → n < 2 ^ 64 → drop z (lowest_digits 11 n) ≡ decimal n
decimal_from_digits n z skips fits =
    let k = 10 - z in
    let e : 11 - z ≡ suc k = omega (arith, skips.0) in
    drop_lowest 11 z (suc k) n (omega (arith, skips.0)) ∙ whole k n (subst (λ m. n < 10 ^ m) e skips.1) (λ h. skips.2 (omega arith)) fits

-- the digits from the first that is written on, as a part of the eleven
pub part_from : (n z m : ℕ) (ds : List ℕ) → ds ≡ lowest_digits 11 n → m ≡ 11 → Skips n z → n < 2 ^ 64 → take (m - z) (drop z ds) ≡ decimal n
part_from n z m ds low whole skips fits =
    let few : length ds ≤ m = omega (arith, ap length low, length_lowest 11 n) in
    between_to_end ds z m few ∙ ap (drop z) low ∙ decimal_from_digits n z skips fits

-- a number of more than eleven digits, in two parts
pub two_parts : (n : ℕ) (ds : List ℕ) → ds ≡ lowest_digits 11 (n % 100000000000) → 100000000000 ≤ n → n < 2 ^ 64 → decimal n ≡ decimal (n / 100000000000) ++ ds
two_parts n ds low many fits =
    let same : lowest_digits 11 n ≡ ds = same_lowest 11 n (n % 100000000000) (sym (mod-mod n 100000000000)) ∙ sym low in
    decimal_ends 11 n many fits ∙ ap (λ xs. decimal (n / 100000000000) ++ xs) same

-- one part after the other
pub joined : (ok : Bool) (was one two three high low all : List ℕ) → ok ≡ true → one ≡ was → two ≡ one ++ high → three ≡ cond ok (two ++ low) two → all ≡ high ++ low
    → three ≡ cond ok (was ++ all) was
joined true was one two three high low all fine e₁ e₂ e₃ whole = e₃ ∙ ap (λ xs. xs ++ low) (e₂ ∙ ap (λ xs. xs ++ high) e₁) ∙ append_assoc was high low ∙ ap (λ xs. was ++ xs) (sym whole)
joined false was one two three high low all fine e₁ e₂ e₃ whole = absurd (true≢false (sym fine))

pub appended : (ok : Bool) (was now more digits : List ℕ) → now ≡ cond ok (was ++ more) was → more ≡ digits → now ≡ cond ok (was ++ digits) was
appended ok was now more digits e same = e ∙ ap (λ xs. cond ok (was ++ xs) was) same

pub longer_by : (ok : Bool) (was more now : ℕ) → now ≡ cond ok (was + more) was → more ≤ 11 → now ≤ was + 11
longer_by true was more now e few = omega arith
longer_by false was more now e few = omega arith

-- the place values but the last, highest first
abbrev pub places : List ℕ
places = 10000000000 ∷ 1000000000 ∷ 100000000 ∷ 10000000 ∷ 1000000 ∷ 100000 ∷ 10000 ∷ 1000 ∷ 100 ∷ 10 ∷ []

place_at : (i : ℕ) → i < 10 → get_or places i 0 ≡ 10 ^ (10 - i)
place_at i few = search rules

-- the last of these that a number does not reach tells its leading zeros
pub skips_to : (n i z : ℕ) (xs : List ℕ) → xs ≡ places → i < length xs → n < get_or xs i 0 → ((k : ℕ) → i + 1 ≤ k → k < length xs → get_or xs k 0 ≤ n) → z ≡ i + 1 → Skips n z
skips_to n i z xs is few above below e =
    let at : (k : ℕ) → k < length xs → get_or xs k 0 ≡ 10 ^ (10 - k) = λ k h. ap (λ ys. get_or ys k 0) is ∙ place_at k (subst (λ ys. k < length ys) is h) in
    let ten : length xs ≡ 10 = ap length is in
    let same : 10 - i ≡ 11 - (i + 1) = omega arith in
    let small : n < 10 ^ (11 - (i + 1)) = subst (λ m. n < 10 ^ m) same (subst (λ v. n < v) (at i few) above) in
    let reached : i + 1 < 10 → 10 ^ (10 - (i + 1)) ≤ n = λ h. let more : i + 1 < length xs = omega arith in subst (λ v. v ≤ n) (at (i + 1) more) (below (i + 1) (omega arith) more) in
    subst (Skips n) (sym e) (omega arith, small, reached)
