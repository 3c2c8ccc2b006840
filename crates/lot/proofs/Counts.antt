-- The row of a class counts an item exactly where one is of that class.
use Rattle.std.proofs.Common.{◌≡◌, ℕ, ◌+◌, ◌≤◌, Bool, true, false, cond, not, eqb, List, [], ◌∷◌, sym, refl, ap, ◌∙◌, ⊎_elim, arith}
use Rattle.std.proofs.lemmas.List.Sums.{sum_by-cons}
use Rattle.std.proofs.lemmas.Bool.{true≢false, cases_Bool, and_from, and_parts, eqb-true, eq-eqb, or_parts, or_cases}
use Rattle.judging.specs.declared.answers.Verdict.{Verdict}
use Rattle.judging.specs.declared.answers.Verdict.TheVariants.{Pass, ConditionalPass, ConditionalFail, Fail}
use Rattle.lot.specs.Rows.{on_pass, on_conditional_pass, on_conditional_fail, on_fail, share_of, row_of, counts_none, some_of}
use Rattle.lot.specs.declared.items.Item.{Item}
use Rattle.lot.specs.declared.items.Row.{Row}

-- how many items a row counts
abbrev total : Row → ℕ
total r = r.passes + r.conditional_passes + r.conditional_fails + r.fails

-- a verdict counts once
once : (b : Bool) (v : Verdict) → cond b (on_pass v 1) 0 + cond b (on_conditional_pass v 1) 0 + cond b (on_conditional_fail v 1) 0 + cond b (on_fail v 1) 0 ≡ cond b 1 0
once true Pass = refl
once true ConditionalPass = refl
once true ConditionalFail = refl
once true Fail = refl
once false v = refl

total_more : (c : ℕ) (e : Item) (es : List Item) → total (row_of c (e ∷ es)) ≡ cond (eqb e.class c) 1 0 + total (row_of c es)
total_more c e es =
    let step : (part : Row → ℕ) → _ = λ part. sum_by-cons (λ x. cond (eqb x.class c) (part (share_of x.judgement)) 0) e es in
    omega (arith, step (λ r. r.passes), step (λ r. r.conditional_passes), step (λ r. r.conditional_fails), step (λ r. r.fails), once (eqb e.class c) e.judgement.verdict)

one_more : (b : Bool) (n : ℕ) → b ≡ true → 1 ≤ cond b 1 0 + n
one_more true n h = omega arith
one_more false n h = absurd (true≢false (sym h))

counted : (c : ℕ) (es : List Item) → some_of c es ≡ true → 1 ≤ total (row_of c es)
counted c [] h = absurd (true≢false (sym h))
counted c (e ∷ es) h =
    ⊎_elim (λ here. omega (arith, total_more c e es, one_more (eqb e.class c) (total (row_of c es)) here)) (λ later. omega (arith, total_more c e es, counted c es later)) (or_cases (eqb e.class c) (some_of c es) h)

no_more : (b : Bool) → b ≡ false → cond {A = ℕ} b 1 0 ≡ 0
no_more true h = absurd (true≢false h)
no_more false h = refl

not_counted : (c : ℕ) (es : List Item) → some_of c es ≡ false → total (row_of c es) ≡ 0
not_counted c [] h = refl
not_counted c (e ∷ es) h =
    let neither = or_parts (eqb e.class c) (some_of c es) h in
    omega (arith, total_more c e es, no_more (eqb e.class c) neither.0, not_counted c es neither.1)

-- four counts are nothing exactly where their sum is
none_from : (r : Row) → total r ≡ 0 → counts_none r ≡ true
none_from r h =
    and_from _ _ (eq-eqb r.passes 0 (omega arith)) (and_from _ _ (eq-eqb r.conditional_passes 0 (omega arith)) (and_from _ _ (eq-eqb r.conditional_fails 0 (omega arith)) (eq-eqb r.fails 0 (omega arith))))

none_to : (r : Row) → counts_none r ≡ true → total r ≡ 0
none_to r h =
    let a = and_parts (eqb r.passes 0) _ h in
    let b = and_parts (eqb r.conditional_passes 0) _ a.1 in
    let c = and_parts (eqb r.conditional_fails 0) _ b.1 in
    omega (arith, eqb-true r.passes 0 a.0, eqb-true r.conditional_passes 0 b.0, eqb-true r.conditional_fails 0 c.0, eqb-true r.fails 0 c.1)

apart : (t : Bool) → (t ≡ true → ⊥) → t ≡ false
apart true h = absurd (h refl)
apart false h = refl

pub counts_some : (c : ℕ) (es : List Item) → not (counts_none (row_of c es)) ≡ some_of c es
counts_some c es =
    ⊎_elim (λ some. ap not (apart (counts_none (row_of c es)) (λ none. let zero-sum = none_to (row_of c es) none in let more = counted c es some in omega arith)) ∙ sym some)
    (λ none. ap not (none_from (row_of c es) (not_counted c es none)) ∙ sym none) (cases_Bool (some_of c es))
