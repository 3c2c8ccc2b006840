-- The decimal form is the shortest.
use Rattle.std.proofs.Common.{◌≡◌, ℕ, ◌^◌, ◌<◌, length, decimal, sym, ap, subst, ⊎_elim, arith, rules}
use Rattle.std.proofs.lemmas.Fmt.{digits_decimal, digits_value-decimal, decimal_nonempty, decimal_digit, first_decimal, length-decimal-le}
use Rattle.std.proofs.lemmas.Str.Parse.{IsNumeralModel, numerals_by_fold, tells_by_index, digits_value_short}
use Rattle.std.proofs.lemmas.Bool.{cases_eq}
use Rattle.numerals.specs.Digits.{OnlyDigits, read_after, Shortest}

own : IsNumeralModel OnlyDigits (read_after 0)
own = numerals_by_fold _ tells_by_index read_after (search rules)

pub decimal_shortest : (n : ℕ) → n < 2 ^ 64 → Shortest n (decimal n)
decimal_shortest n fits =
    record {
      only_digits = digits_decimal own n fits;
      some = decimal_nonempty n fits;
      says = digits_value-decimal own n fits;
      no_leading_zero = λ zero. ⊎_elim (λ none. subst (λ m. length (decimal m) ≡ 1) (sym none) (ap length (decimal_digit 0 (omega arith)))) (λ more. absurd (omega (arith, zero, first_decimal n (omega arith) fits))) (cases_eq n 0);
      no_fewer = λ es digits some says. length-decimal-le (length es) n some (subst (λ m. m < 10 ^ length es) says (digits_value_short own es (length es) digits (omega arith))) fits;
    }
