-- The row of a class, from the notes of its passes.
use Rattle.std.proofs.Common.{◌≡◌, ℕ, ◌+◌, ◌-◌, Bool, true, false, cond, ◌&&◌, eqb, List, [], ◌∷◌, map, length, nat_abs, sym, refl, ap, ◌∙◌, arith}
use Rattle.std.proofs.lemmas.List.Sums.{sum_by-cons}
use Rattle.knowledge.specs.Millionths.{million}
use Rattle.judging.specs.declared.answers.Verdict.{Verdict}
use Rattle.judging.specs.declared.answers.Verdict.TheVariants.{Pass, ConditionalPass, ConditionalFail, Fail}
use Rattle.lot.specs.Notes.{Note, judgement, stored, is_pass, passing}
use Rattle.lot.specs.Risks.{least_risks, greatest_risks}
use Rattle.lot.specs.Rows.{on_pass, share_of, summed, row_of}
use Rattle.lot.specs.declared.items.Row.{Row}

-- a sum over the passes of a class: `part` of a row, which a pass raises by `mine` of its note and nothing else raises
module _ (part : Row → ℕ) (mine : Note → ℕ) (total : List Note → ℕ) (c : ℕ)
    (none : total [] ≡ 0) (more : (n : Note) (ns : List Note) → total (n ∷ ns) ≡ mine n + total ns)
    (of-pass : (n : Note) → part (share_of (judgement n)) ≡ on_pass (judgement n).verdict (mine n)) where
  by_verdict : (b : Bool) (v : Verdict) (n : Note) (ns : List Note) → cond b (on_pass v (mine n)) 0 + total ns ≡ total (cond (b && is_pass v) (n ∷ ns) ns)
  by_verdict false v n ns = omega arith
  by_verdict true Pass n ns = sym (more n ns)
  by_verdict true ConditionalPass n ns = omega arith
  by_verdict true ConditionalFail n ns = omega arith
  by_verdict true Fail n ns = omega arith

  pub over_passes : (ns : List Note) → summed part c (map stored ns) ≡ total (passing c ns)
  over_passes [] = sym none
  over_passes (n ∷ ns) =
      let mine-only : Bool = eqb (nat_abs n.fields.class) c in
      sum_by-cons (λ e. cond (eqb e.class c) (part (share_of e.judgement)) 0) (stored n) (map stored ns)
      ∙ ap (λ (x : ℕ). cond mine-only x 0 + summed part c (map stored ns)) (of-pass n)
      ∙ ap (λ (x : ℕ). cond mine-only (on_pass (judgement n).verdict (mine n)) 0 + x) (over_passes ns)
      ∙ by_verdict mine-only (judgement n).verdict n (passing c ns)

pub passes_are : (c : ℕ) (ns : List Note) → (row_of c (map stored ns)).passes ≡ length (passing c ns)
passes_are c ns = over_passes (λ r. r.passes) (λ n. 1) length c refl (λ n ns. omega arith) (λ n. refl) ns

pub lesser_is : (c : ℕ) (ns : List Note) → (row_of c (map stored ns)).lesser ≡ least_risks (passing c ns)
lesser_is c ns = over_passes (λ r. r.lesser) (λ n. million - (judgement n).bracket.ceiling) least_risks c refl (λ n ns. refl) (λ n. refl) ns

pub greater_is : (c : ℕ) (ns : List Note) → (row_of c (map stored ns)).greater ≡ greatest_risks (passing c ns)
greater_is c ns = over_passes (λ r. r.greater) (λ n. million - (judgement n).bracket.floor) greatest_risks c refl (λ n ns. refl) (λ n. refl) ns
