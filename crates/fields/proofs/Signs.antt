-- The bytes of a number but for its minus.
use Rattle.std.proofs.Common.{◌≡◌, ℕ, ◌-◌, ◌≤◌, true, false, eqb, List, [], ◌∷◌, length, get_or, take, drop, sym, refl, ◌∙◌, arith, eq-eqb}
use Rattle.std.proofs.lemmas.List.{take_rest}
use Rattle.std.proofs.lemmas.Bool.{cond-true}
use Rattle.std.proofs.lemmas.Bool.Decides.{nat_tests}
use Rattle.fields.specs.Values.{negative, magnitude}

-- a minus stands first
pub with_minus : (bs : List ℕ) → 1 ≤ length bs → get_or bs 0 0 ≡ 45 → (negative bs ≡ true) × (magnitude bs ≡ take (length bs - 1) (drop 1 bs))
with_minus [] some e = absurd (omega arith)
with_minus (b ∷ bs) some e = (eq-eqb b 45 e, cond-true (eqb b 45) bs (b ∷ bs) (eq-eqb b 45 e) ∙ sym (take_rest (b ∷ bs) 1))

-- none does
pub no_minus : (bs : List ℕ) → (1 ≤ length bs → get_or bs 0 0 ≡ 45 → ⊥) → (negative bs ≡ false) × (magnitude bs ≡ bs)
no_minus [] n = (refl, refl)
no_minus (b ∷ bs) n = grind (arith, nat_tests)
