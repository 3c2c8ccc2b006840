-- What digits are worth by their places.
use Rattle.std.proofs.Common.{◌≡◌, ℕ, ◌+◌, ◌-◌, ◌*◌, ◌^◌, ◌<◌, ◌≤◌, List, [], ◌∷◌, ◌++◌, length, get_or, take, sym, ap, ◌∙◌, mul-le-mul_right, mul_assoc, pow-suc, add-one, arith}
use native.Mathlib.Nat.{pow-le-pow_right}
use Rattle.std.specs.List.{AllByRecursion}
use Rattle.std.proofs.ByRecursion.{All-more}
use Rattle.std.proofs.lemmas.List.{take_more, length-take-le, length_push}
use Rattle.fields.specs.Values.{Digit, Numeral, worth}

value_push : (ds : List ℕ) (d : ℕ) → worth (ds ++ d ∷ []) ≡ 10 * worth ds + (d - 48)
value_push [] d = omega arith
value_push (e ∷ ds) d =
    let place : 10 ^ length (ds ++ d ∷ []) ≡ 10 ^ length ds * 10 = ap (λ n. 10 ^ n) (length_push ds d ∙ add-one (length ds)) ∙ pow-suc 10 (length ds) in
    omega (arith, value_push ds d, ap (λ p. (e - 48) * p) place, mul_assoc (e - 48) (10 ^ length ds) 10)

value_below : (ds : List ℕ) → AllByRecursion Digit ds → worth ds < 10 ^ length ds
value_below [] h = omega arith
value_below (d ∷ ds) h =
    let few : d - 48 ≤ 9 = omega (arith, h.0.not_above) in
    omega (arith, value_below ds h.1, mul-le-mul_right (10 ^ length ds) few, pow-suc 10 (length ds))

-- the first i digits
pub record Sofar (v i : ℕ) (ds : List ℕ) : Type 0 where
  pub digits : AllByRecursion Digit (take i ds)
  pub is : v ≡ worth (take i ds)

module _ (v i : ℕ) (ds : List ℕ) (so : Sofar v i ds) (few : length ds ≤ 10) where
  pub small : i ≤ length ds → v < 10 ^ 10
  small le =
      let ten : i ≤ 10 = omega arith in
      omega (arith, so.is, value_below (take i ds) so.digits, ap (λ n. 10 ^ n) (length-take-le i ds le), pow-le-pow_right {n = 10} (omega arith) ten)

  pub one_more : i < length ds → Digit (get_or ds i 0) → Sofar (10 * v + (get_or ds i 0 - 48)) (i + 1) ds
  one_more lt d =
      record {
        digits = All-more Digit ds i 0 lt so.digits d;
        is = ap (λ w. 10 * w + (get_or ds i 0 - 48)) so.is ∙ sym (value_push (take i ds) (get_or ds i 0)) ∙ ap worth (sym (take_more ds i 0 lt));
      }

pub numeral_small : (ds : List ℕ) → Numeral ds → worth ds < 10 ^ 10
numeral_small ds num = omega (arith, value_below ds num.digits, pow-le-pow_right {n = 10} (omega arith) num.few)
