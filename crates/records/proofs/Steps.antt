-- One column after another: what an answer says of the checks before it.
use Rattle.std.proofs.Common.{◌≡◌, ℕ, Bool, true, false, cond, Some, None, Ok, Err, Option, Result, sym, refl, ap, ◌∙◌, subst, arith}
use Rattle.faults.specs.declared.Refusal.{Refusal}
use Rattle.faults.specs.declared.Fault.{Fault}
use Rattle.faults.specs.Faults.{check, first_of}
use Rattle.records.specs.Cells.{Cell, fault_in, outcome}

module _ {T : Type 0} where
  -- a value was answered, and is the one that is meant
  pub its_value : (o : Option Fault) (v x : T) → Ok x ≡ outcome o v → x ≡ v
  its_value None v x h = cc
  its_value (Some f) v x h = let z : ◌≡◌ {A = ℕ} 0 1 = cc in absurd (omega arith)

  pub no_fault : (o : Option Fault) (v x : T) → Ok x ≡ outcome o v → o ≡ None
  no_fault None v x h = refl
  no_fault (Some f) v x h = let z : ◌≡◌ {A = ℕ} 0 1 = cc in absurd (omega arith)

  -- a fault was answered
  pub its_fault : (o : Option Fault) (v : T) (f : Fault) → Err f ≡ outcome o v → o ≡ Some f
  its_fault None v f h = let z : ◌≡◌ {A = ℕ} 0 1 = cc in absurd (omega arith)
  its_fault (Some g) v f h = cc

-- a value x was said in the cell c, and is v: a test of it comes next
module _ {T : Type 0} (c : Cell) (o : Option Refusal) (test : T → Bool) (e : Refusal) (v x : T) (h : Ok x ≡ outcome (fault_in c o) v) where
  abbrev Tested : Result T Fault → Type 0
  Tested r = r ≡ outcome (fault_in c (first_of o (check (test v) e None))) v

  none_before : (b : Option Refusal) → o ≡ b → b ≡ None
  none_before None d = refl
  none_before (Some g) d = let k = subst (λ a. Ok x ≡ outcome (fault_in c a) v) d h in let z : ◌≡◌ {A = ℕ} 0 1 = cc in absurd (omega arith)

  is_said : o ≡ None
  is_said = none_before o refl

  is_meant : x ≡ v
  is_meant = its_value (fault_in c o) v x h

  -- a value that passes the test is answered
  pub passes_test : test x ≡ true → Tested (Ok x)
  passes_test t = let u : test v ≡ true = subst (λ y. test y ≡ true) is_meant t in rw (is_said, u) (ap Ok is_meant)

  -- one that fails it is refused, with the cell's place
  pub fails_test : test x ≡ false → (f : Fault) → Some f ≡ fault_in c (Some e) → Tested (Err f)
  fails_test t f g = let u : test v ≡ false = subst (λ y. test y ≡ false) is_meant t in rw (is_said, u) (cc)

-- so the test answers, either way
pub tested : {T : Type 0} (c : Cell) (o : Option Refusal) (test : T → Bool) (e : Refusal) (v x : T) (b : Bool) (f : Fault) (r : Result T Fault)
    → Ok x ≡ outcome (fault_in c o) v → b ≡ test x → Some f ≡ fault_in c (Some e) → r ≡ cond b (Ok x) (Err f)
    → r ≡ outcome (fault_in c (first_of o (check (test v) e None))) v
tested c o test e v x true f r h t k a = a ∙ passes_test c o test e v x h (sym t)
tested c o test e v x false f r h t k a = a ∙ fails_test c o test e v x h (sym t) f k

-- no value was said in the cell c: nothing is looked at after that
pub breaks_off : {T : Type 0} (c : Cell) (o later : Option Refusal) (v : T) (f : Fault)
    → Err f ≡ outcome (fault_in c o) v → Err f ≡ outcome (fault_in c (first_of o later)) v
breaks_off c None later v f h = let z : ◌≡◌ {A = ℕ} 0 1 = cc in absurd (omega arith)
breaks_off c (Some e) later v f h = h
