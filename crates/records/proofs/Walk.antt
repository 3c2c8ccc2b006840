-- The columns of a record from left to right.
use Rattle.std.proofs.Common.{◌≡◌, ℕ, zero, suc, List, [], ◌∷◌, length, get_or, Ok, Err, Result, sym, refl, ap, ◌∙◌, arith}
use Rattle.faults.specs.declared.Fault.{Fault}
use Rattle.text.specs.declared.field.Field.TheVariants.{Bare}
use Rattle.text.specs.declared.field.Placed.{Placed}
use Rattle.fields.specs.Answers.{said}
use Rattle.records.specs.Columns.{Column}
use Rattle.records.specs.Cells.{cell, cells, first_fault, left_to_right, outcome, column_answer, fault_in}
use Rattle.records.proofs.Steps.{its_value, no_fault, its_fault}

-- what an access past the end of a list would read
abbrev pub blank : Placed
blank = record { content = Bare (record { ref_ptr = (0, 0); now = [] }); «record» = 0; field = 0 }

-- n fields by their places
abbrev pub listed : ℕ → (ℕ → Placed) → List Placed
listed zero at = []
listed (suc n) at = at 0 ∷ listed n (λ i. at (suc i))

pub all_listed : (n : ℕ) (ps : List Placed) → length ps ≡ n → ps ≡ listed n (λ i. get_or ps i blank)
all_listed zero [] e = refl
all_listed zero (p ∷ ps) e = absurd (omega (arith, e))
all_listed (suc n) [] e = absurd (omega (arith, e))
all_listed (suc n) (p ∷ ps) e = ap (λ l. p ∷ l) (all_listed n ps (omega (arith, e)))

-- the columns over the fields answer r, where w is meant
pub record Answered {U : Type 0} (ks : List Column) (ps : List Placed) (r : Result U Fault) (w : U) : Type 0 where
  pub answer : r ≡ outcome (left_to_right ks (cells ps)) w

module _ {U : Type 0} {ks : List Column} {ps : List Placed} {k : Column} {p : Placed} where
  -- the first field says x
  pub walk_on : {T : Type 0} {r : Result U Fault} {w : U} (value : List ℕ → T) (x : T) → Ok x ≡ column_answer (cell p) k value
      → Answered ks ps r w → Answered (k ∷ ks) (p ∷ ps) r w
  walk_on {w = w} value x h later =
      let c = cell p in
      record { answer = later.answer ∙ sym (ap (λ o. outcome (first_fault o (left_to_right ks (cells ps))) w) (no_fault (fault_in c (k c.words)) (value c.words) x h)) }

  -- the first field is refused
  pub walk_off : {T : Type 0} {w : U} (value : List ℕ → T) (f : Fault) → Err f ≡ column_answer (cell p) k value → Answered (k ∷ ks) (p ∷ ps) (Err f) w
  walk_off {w = w} value f h =
      let c = cell p in
      record { answer = sym (ap (λ o. outcome (first_fault o (left_to_right ks (cells ps))) w) (its_fault (fault_in c (k c.words)) (value c.words) f h)) }

-- no column is left
pub arrive : {U : Type 0} {ps : List Placed} {x w : U} → x ≡ w → Answered [] ps (Ok x) w
arrive e = record { answer = ap Ok e }

-- a value that was answered is the one that is meant
pub meant : {T : Type 0} (ps : List Placed) (i : ℕ) (k : Column) (value : List ℕ → T) (x : T) → Ok x ≡ column_answer (cell (get_or ps i blank)) k value
    → x ≡ value (said (get_or ps i blank))
meant ps i k value x h = let c = cell (get_or ps i blank) in its_value (fault_in c (k c.words)) (value c.words) x h
