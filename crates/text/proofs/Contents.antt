-- The contents of a record's fields: parts of the text, with each quote doubled between quotes.
use Rattle.std.proofs.Common.{◌≡◌, ℕ, ◌⊎◌, List, [], ◌∷◌, ◌++◌, length, take, sym, refl, ap, ◌∙◌, subst, inl, inr, ⊎_elim, append_assoc, append-nil, arith}
use Rattle.std.specs.List.{flat_map, AllByRecursion}
use Rattle.std.proofs.lemmas.List.{take_at, drop_at}
use Rattle.std.proofs.lemmas.Bool.Decides.{nat_tests, eqb_tells}
use Rattle.text.specs.Content.{singled, twice, holds, Doubled, Part}
use Rattle.text.specs.Grammar.{COMMA, CR, LF, DQUOTE, Inside, nothing, other, doubled, Form, non_escaped, escaped, IsField, spelling, spelled_record}
use Rattle.text.specs.Records.{Begins}
use Rattle.text.proofs.Rows.{after_comma}

-- a byte that is no quote stays as it is
single_other : (b : ℕ) (bs : List ℕ) → (b ≡ DQUOTE → ⊥) → singled (b ∷ bs) ≡ b ∷ singled bs
single_other b [] n = refl
single_other b (c ∷ bs) n = grind (arith, nat_tests)

twice_other : (b : ℕ) (bs : List ℕ) → (b ≡ DQUOTE → ⊥) → twice (b ∷ bs) ≡ b ∷ twice bs
twice_other b bs n = grind (arith, nat_tests)

inside_twice : {qs : List ℕ} → Inside qs → qs ≡ twice (singled qs)
inside_twice nothing = refl
inside_twice (other {b} {bs} n i) = sym (ap twice (single_other b bs n) ∙ twice_other b (singled bs) n ∙ ap (λ cs. b ∷ cs) (sym (inside_twice i)))
inside_twice (doubled i) = ap (λ cs. DQUOTE ∷ DQUOTE ∷ cs) (inside_twice i)

-- no byte is a quote
abbrev pub QuoteFree : List ℕ → Type 0
QuoteFree bs = AllByRecursion (λ b. b ≡ DQUOTE → ⊥) bs

-- bytes without a quote say themselves
pub single_free : (bs : List ℕ) → QuoteFree bs → singled bs ≡ bs
single_free [] h = refl
single_free (b ∷ bs) h = single_other b bs h.0 ∙ ap (λ cs. b ∷ cs) (single_free bs h.1)

-- two bytes at the front: both quotes, or the first stays
pub front : (b c : ℕ) (bs : List ℕ) → ((b ≡ DQUOTE) × (c ≡ DQUOTE) × (singled (b ∷ c ∷ bs) ≡ DQUOTE ∷ singled bs)) ⊎ (singled (b ∷ c ∷ bs) ≡ b ∷ singled (c ∷ bs))
front b c bs =
    ⊎_elim
    (λ p. ⊎_elim (λ q. inl (p.1, q.1, grind (arith, nat_tests))) (λ q. inr (grind (arith, nat_tests))) (eqb_tells c DQUOTE))
    (λ p. inr (grind (arith, nat_tests))) (eqb_tells b DQUOTE)

-- what says bytes without a quote is those bytes
pub free_single : (bs : List ℕ) → QuoteFree (singled bs) → singled bs ≡ bs
free_single [] h = refl
free_single (b ∷ []) h = refl
free_single (b ∷ c ∷ bs) h =
    ⊎_elim (λ p. let free : QuoteFree (DQUOTE ∷ singled bs) = subst QuoteFree p.2 h in absurd (free.0 refl))
    (λ e. let free : QuoteFree (b ∷ singled (c ∷ bs)) = subst QuoteFree e h in e ∙ ap (λ cs. b ∷ cs) (free_single (c ∷ bs) free.1)) (front b c bs)

-- only empty bytes say nothing
pub single_none : (bs : List ℕ) → length (singled bs) ≡ 0 → bs ≡ []
single_none [] h = refl
single_none (b ∷ []) h = absurd (omega arith)
single_none (b ∷ c ∷ bs) h = ⊎_elim (λ p. absurd (omega (arith, ap length p.2))) (λ e. absurd (omega (arith, ap length e))) (front b c bs)

-- one byte says one byte, and so does a doubled quote; nothing else does
pub single_one : (bs : List ℕ) → length (singled bs) ≡ 1 → (length bs ≡ 1) ⊎ (bs ≡ DQUOTE ∷ DQUOTE ∷ [])
single_one [] h = absurd (omega arith)
single_one (b ∷ []) h = inl refl
single_one (b ∷ c ∷ bs) h =
    ⊎_elim (λ p. inr (λ i. p.0 i ∷ p.1 i ∷ single_none bs (omega (arith, ap length p.2)) i))
    (λ e. absurd (let z = ap length (single_none (c ∷ bs) (omega (arith, ap length e))) in omega arith)) (front b c bs)

field_doubled : (f : Form) → IsField f → Doubled f
field_doubled (non_escaped bs) h = tt
field_doubled (escaped bs) h = inside_twice h

pub all_doubled : (fs : List Form) → AllByRecursion IsField fs → AllByRecursion Doubled fs
all_doubled [] h = tt
all_doubled (f ∷ fs) h = (field_doubled f h.0, all_doubled fs h.1)

-- what stands in the middle is a part
middle : (pre xs post : List ℕ) → Part (pre ++ (xs ++ post)) xs
middle pre xs post = (length pre, sym (ap (take (length xs)) (drop_at pre (xs ++ post) (length pre) refl) ∙ take_at xs post (length xs) refl))

field_part : (pre : List ℕ) (f : Form) (post : List ℕ) → Part (pre ++ (spelling f ++ post)) (holds f)
field_part pre (non_escaped bs) post = middle pre bs post
field_part pre (escaped bs) post =
    subst (λ cs. Part cs bs)
    (append_assoc pre (DQUOTE ∷ []) (bs ++ DQUOTE ∷ post) ∙ ap (λ cs. pre ++ DQUOTE ∷ cs) (sym (append_assoc bs (DQUOTE ∷ []) post)))
    (middle (pre ++ DQUOTE ∷ []) bs (DQUOTE ∷ post))

more_parts : (fs : List Form) (pre post : List ℕ) → AllByRecursion (λ f. Part (pre ++ (flat_map after_comma fs ++ post)) (holds f)) fs
more_parts [] pre post = tt
more_parts (f ∷ fs) pre post =
    let rest = flat_map after_comma fs in
    let led = pre ++ COMMA ∷ [] in
    let flat = append_assoc pre (COMMA ∷ []) (spelling f ++ (rest ++ post)) ∙ ap (λ cs. pre ++ COMMA ∷ cs) (sym (append_assoc (spelling f) rest post)) in (
      subst (λ cs. Part cs (holds f)) flat (field_part led f (rest ++ post)),
      subst (λ cs. AllByRecursion (λ g. Part cs (holds g)) fs) (append_assoc led (spelling f) (rest ++ post) ∙ flat) (more_parts fs (led ++ spelling f) post),
    )

row_parts : (fs : List Form) (post : List ℕ) → AllByRecursion (λ f. Part (spelled_record fs ++ post) (holds f)) fs
row_parts [] post = tt
row_parts (f ∷ fs) post =
    let rest = flat_map after_comma fs in
    let flat = sym (append_assoc (spelling f) rest post) in
    (subst (λ cs. Part cs (holds f)) flat (field_part [] f (rest ++ post)), subst (λ cs. AllByRecursion (λ g. Part cs (holds g)) fs) flat (more_parts fs (spelling f) post))

pub all_parts : (fs : List Form) (after bs : List ℕ) → Begins fs after bs → AllByRecursion (λ f. Part bs (holds f)) fs
all_parts fs after bs h =
    ⊎_elim (λ e. subst (λ cs. AllByRecursion (λ f. Part cs (holds f)) fs) (sym e) (row_parts fs (CR ∷ LF ∷ after)))
    (λ p. subst (λ cs. AllByRecursion (λ f. Part cs (holds f)) fs) (append-nil (spelled_record fs) ∙ sym p.0) (row_parts fs [])) h.spelt
