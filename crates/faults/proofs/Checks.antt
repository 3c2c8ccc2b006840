-- A call's answer after one of its checks.
use Rattle.std.proofs.Common.{◌≡◌, ℕ, Bool, true, false, Some, None, Ok, Err, Option, Result, sym, refl, subst, arith}
use Rattle.faults.specs.declared.Refusal.{Refusal}
use Rattle.faults.specs.declared.Fault.{Fault}
use Rattle.faults.specs.Faults.{direct, check, first_of, AnswersBy}

module _ {T : Type 0} (Q : T → Type 0) (b : Bool) (e : Refusal) (later : Option Refusal) where
  -- where the check passes, the later ones decide
  pub passed : (r : Result T Fault) → b ≡ true → AnswersBy later r Q → AnswersBy (check b e later) r Q
  passed r h a = subst (λ t. AnswersBy (check t e later) r Q) (sym h) a

  -- where it fails, the call refuses with it
  pub failed : b ≡ false → AnswersBy (check b e later) (Err (direct e)) Q
  failed h = subst (λ t. AnswersBy (check t e later) (Err (direct e)) Q) (sym h) refl

some_none : (e : Refusal) → Some e ≡ None → ⊥
some_none e h = let z : ◌≡◌ {A = ℕ} 0 1 = cc in omega arith

-- a check that does not refuse has passed
pub check_passed : (b : Bool) (e : Refusal) (later : Option Refusal) → check b e later ≡ None → b ≡ true
check_passed true e later h = refl
check_passed false e later h = absurd (some_none e h)

-- checks of which none refuses: neither the earlier nor the later
pub first_none : (earlier later : Option Refusal) → first_of earlier later ≡ None → earlier ≡ None
first_none None later h = refl
first_none (Some e) later h = h

pub later_none : (earlier later : Option Refusal) → first_of earlier later ≡ None → later ≡ None
later_none None later h = h
later_none (Some e) later h = absurd (some_none e h)

-- an answer says that no check refused
pub no_refusal : {T : Type 0} (P : T → Type 0) (o : Option Refusal) (x : T) → AnswersBy o (Ok x) P → o ≡ None
no_refusal P None x a = refl
no_refusal P (Some e) x a = absurd a

-- and has what was promised of its value
pub its_value : {T : Type 0} (P : T → Type 0) (o : Option Refusal) (x : T) → AnswersBy o (Ok x) P → P x
its_value P None x a = a
its_value P (Some e) x a = absurd a

-- the same checks answer another call alike
pub refused_alike : {S T : Type 0} (P : S → Type 0) (Q : T → Type 0) (o : Option Refusal) (f : Fault) → AnswersBy o (Err f) P → AnswersBy o (Err f) Q
refused_alike P Q None f a = absurd a
refused_alike P Q (Some e) f a = a

pub answered_alike : {S T : Type 0} (P : S → Type 0) (Q : T → Type 0) (o : Option Refusal) (x : S) (y : T) → AnswersBy o (Ok x) P → Q y → AnswersBy o (Ok y) Q
answered_alike P Q None x y a q = q
answered_alike P Q (Some e) x y a q = absurd a

-- where earlier checks refuse, the call does
pub refuses_first : {S T : Type 0} (P : S → Type 0) (Q : T → Type 0) (earlier later : Option Refusal) (f : Fault)
    → AnswersBy earlier (Err f) P → AnswersBy (first_of earlier later) (Err f) Q
refuses_first P Q None later f a = absurd a
refuses_first P Q (Some e) later f a = a

-- where they pass, the later ones decide
pub passes_first : {T : Type 0} (Q : T → Type 0) (earlier later : Option Refusal) (r : Result T Fault)
    → earlier ≡ None → AnswersBy later r Q → AnswersBy (first_of earlier later) r Q
passes_first Q earlier later r h a = subst (λ o. AnswersBy (first_of o later) r Q) (sym h) a

-- a call that passed its earlier checks answers by the later ones
pub goes_on : {S T : Type 0} (P : S → Type 0) (Q : T → Type 0) (earlier later : Option Refusal) (x : S) (r : Result T Fault)
    → AnswersBy earlier (Ok x) P → AnswersBy later r Q → AnswersBy (first_of earlier later) r Q
goes_on P Q None later x r a b = b
goes_on P Q (Some e) later x r a b = absurd a
