-- The tests of contents agree with what the fields' values ensure.
use Rattle.std.proofs.Common.{◌≡◌, ℕ, Bool, true, false, ◌&&◌, leb, List, [], ◌∷◌, length, ℤ, Some, None, Ok, Err, Decides, Option, Result, refl, ap, inl, inr, arith}
use Rattle.std.specs.List.{AllByRecursion}
use Rattle.std.proofs.lemmas.Bool.{false≢true, and_parts, and_from, leb-true, le-leb}
use Rattle.faults.specs.declared.Refusal.{Refusal}
use Rattle.faults.specs.declared.Refusal.TheVariants.{NotANumber}
use Rattle.faults.specs.declared.Fault.{Fault}
use Rattle.faults.specs.Faults.{check}
use Rattle.text.specs.declared.field.Placed.{Placed}
use Rattle.fields.specs.Answers.{Told}
use Rattle.fields.specs.Values.{Digit, Numeral, magnitude, IsNumber, number_of, IsLimit, SaysLimit}
use Rattle.records.specs.Tests.{all_digits, is_numeral, is_number, limit_of}
use Rattle.records.specs.Columns.{a_limit}
use Rattle.records.specs.Cells.{cell, fault_in, outcome}

digits_tell : (ds : List ℕ) → all_digits ds ≡ true → AllByRecursion Digit ds
digits_tell [] h = tt
digits_tell (d ∷ ds) h =
    let both = and_parts (leb 48 d && leb d 57) (all_digits ds) h in
    let edges = and_parts (leb 48 d) (leb d 57) both.0 in
    (record { not_below = leb-true 48 d edges.0; not_above = leb-true d 57 edges.1 }, digits_tell ds both.1)

digits_told : (ds : List ℕ) → AllByRecursion Digit ds → all_digits ds ≡ true
digits_told [] h = refl
digits_told (d ∷ ds) h =
    and_from (leb 48 d && leb d 57) (all_digits ds) (and_from (leb 48 d) (leb d 57) (le-leb 48 d h.0.not_below) (le-leb d 57 h.0.not_above))
    (digits_told ds h.1)

numeral_tells : (ds : List ℕ) → Decides (is_numeral ds) (Numeral ds)
numeral_tells ds = (
  (λ t.
      let both = and_parts (leb 1 (length ds) && leb (length ds) 10) (all_digits ds) t in
      let edges = and_parts (leb 1 (length ds)) (leb (length ds) 10) both.0 in
      record { some = leb-true 1 (length ds) edges.0; few = leb-true (length ds) 10 edges.1; digits = digits_tell ds both.1 }),
  λ n.
      and_from (leb 1 (length ds) && leb (length ds) 10) (all_digits ds)
      (and_from (leb 1 (length ds)) (leb (length ds) 10) (le-leb 1 (length ds) n.some) (le-leb (length ds) 10 n.few)) (digits_told ds n.digits),
)

pub number_tells : (bs : List ℕ) → Decides (is_number bs) (IsNumber bs)
number_tells bs = numeral_tells (magnitude bs)

-- what is told of a field, by its test
pub told_by : {T : Type 0} (p : Placed) (P : Type 0) (b : Bool) (e : Refusal) (v : T) (r : Result T Fault)
    → Decides b P → Told p r P (λ x. x ≡ v) e → r ≡ outcome (fault_in (cell p) (check b e None)) v
told_by p P true e v (Ok x) d h = ap Ok h.1
told_by p P false e v (Ok x) d h = absurd (false≢true (d.1 h.0))
told_by p P true e v (Err f) d h = absurd (h.0 (d.0 refl))
told_by p P false e v (Err f) d h = ap Err h.1

-- and of a limit
pub told_limit : (p : Placed) (ws : List ℕ) (r : Result (Option ℤ) Fault)
    → Told p r (IsLimit ws) (SaysLimit ws) NotANumber → r ≡ outcome (fault_in (cell p) (a_limit ws)) (limit_of ws)
told_limit p [] (Ok None) h = refl
told_limit p [] (Ok (Some v)) h = let some = h.1.0.some in absurd (omega arith)
told_limit p [] (Err f) h = absurd (h.0 (inl refl))
told_limit p (b ∷ bs) (Ok None) h = let e = h.1 in let z : ◌≡◌ {A = ℕ} 0 1 = cc in absurd (omega arith)
told_limit p (b ∷ bs) (Ok (Some v)) h =
    told_by p (IsNumber (b ∷ bs)) (is_number (b ∷ bs)) NotANumber (Some (number_of (b ∷ bs))) (Ok (Some v)) (number_tells (b ∷ bs))
    (h.1.0, ap Some h.1.1)
told_limit p (b ∷ bs) (Err f) h =
    told_by p (IsNumber (b ∷ bs)) (is_number (b ∷ bs)) NotANumber (Some (number_of (b ∷ bs))) (Err f) (number_tells (b ∷ bs))
    ((λ n. h.0 (inr n)), h.1)
