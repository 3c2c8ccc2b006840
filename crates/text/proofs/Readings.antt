-- Readings of a text: each is its first record and a reading of what comes after.
use Rattle.std.proofs.Common.{◌≡◌, ℕ, ◌+◌, ◌<◌, ◌≤◌, List, [], ◌∷◌, ◌++◌, length, Some, Ok, Err, sym, refl, ap, ◌∙◌, subst, inl, inr, ⊎_elim, append_assoc, append-nil, arith, length-append}
use Rattle.faults.specs.declared.Fault.{Fault}
use Rattle.faults.specs.declared.Refusal.{Refusal}
use Rattle.text.specs.declared.field.Placed.{Placed}
use Rattle.text.specs.Grammar.{CR, LF, Form, spelled_record, spelled, last_of, IsText, OneReading}
use Rattle.text.specs.declared.reader.Reader.{Reader}
use Rattle.text.specs.declared.reader.methods.Row.{Row}
use Rattle.text.specs.Fronts.{forms, Numbered}
use Rattle.text.specs.Reading.{left, handed, longest, Reads, broken}
use Rattle.text.specs.Records.{Begins, Breaks, First, Broken}
use Rattle.text.specs.Rows.{Split}
use Rattle.text.proofs.Contents.{all_doubled, all_parts}
use Rattle.text.proofs.Rows.{begins_once, breaks_once, unbroken, not_empty}

-- a reading that is not empty begins with its first record
text_begins : (r : List Form) (rs : List (List Form)) (bs : List ℕ) → IsText (r ∷ rs) bs → (after : List ℕ) × Begins r after bs × IsText rs after
text_begins r [] bs h = (
  [],
  record {
    is_record = h.0.0;
    some = ⊎_elim (λ e. omega (arith, simp length-append at (ap length e))) (λ p. omega (arith, simp length-append at (ap length p.0), p.1)) h.1;
    spelt = ⊎_elim (λ e. inl (e ∙ ap (λ cs. cs ++ CR ∷ LF ∷ []) (append-nil (spelled_record r)))) (λ p. inr (p.0 ∙ append-nil (spelled_record r), refl)) h.1;
  },
  refl,
)
text_begins r (s ∷ ss) bs h =
    ⊎_elim
    (λ e.
    let flat = e ∙ append_assoc (spelled_record r) (CR ∷ LF ∷ spelled (s ∷ ss)) (CR ∷ LF ∷ []) in (
      spelled (s ∷ ss) ++ CR ∷ LF ∷ [],
      record { is_record = h.0.0; some = omega (arith, simp length-append at (ap length flat)); spelt = inl flat },
      (h.0.1, inl refl),
    ))
    (λ p. (
      spelled (s ∷ ss),
      record { is_record = h.0.0; some = omega (arith, simp length-append at (ap length p.0)); spelt = inl p.0 },
      (h.0.1, inr (refl, p.1)),
    ))
    h.1

last_within : (r : List Form) (rs : List (List Form)) → length (spelled_record (last_of r rs)) ≤ length (spelled (r ∷ rs))
last_within r [] = omega (arith, length-append (spelled_record r) [])
last_within r (s ∷ ss) = omega (arith, last_within s ss, length-append (spelled_record r) (CR ∷ LF ∷ spelled (s ∷ ss)))

-- the first record and a reading of what comes after are a reading
begins_text : (r : List Form) (rs : List (List Form)) (after bs : List ℕ) → Begins r after bs → IsText rs after → IsText (r ∷ rs) bs
begins_text r [] after bs h none = (
  (h.is_record, tt),
  ⊎_elim (λ e. inl (e ∙ (λ i. sym (append-nil (spelled_record r)) i ++ CR ∷ LF ∷ none i)))
      (λ p. inr (p.0 ∙ sym (append-nil (spelled_record r)), omega (arith, ap length p.0, h.some))) h.spelt,
)
begins_text r (s ∷ ss) after bs h k = (
  (h.is_record, k.0),
  ⊎_elim
      (λ e. ⊎_elim (λ p. inl (e ∙ ap (λ cs. spelled_record r ++ CR ∷ LF ∷ cs) p ∙ sym (append_assoc (spelled_record r) (CR ∷ LF ∷ spelled (s ∷ ss)) (CR ∷ LF ∷ []))))
      (λ p. inr (e ∙ ap (λ cs. spelled_record r ++ CR ∷ LF ∷ cs) p.0, p.1)) k.1)
      (λ p. absurd (⊎_elim (λ q. omega (arith, simp length-append at (ap length (sym p.1 ∙ q)))) (λ q. omega (arith, ap length (sym p.1 ∙ q.0), q.1, last_within s ss)) k.1))
      h.spelt,
)

-- a text that is not empty has a record
none_read : (r : List Form) (rs : List (List Form)) (bs : List ℕ) → bs ≡ [] → IsText (r ∷ rs) bs → ⊥
none_read r rs bs none h = omega (arith, ap length none, (text_begins r rs bs h).1.some)

one_reading : (bs : List ℕ) → OneReading bs
one_reading bs [] [] h k = refl
one_reading bs [] (s ∷ ss) h k = absurd (none_read s ss bs h k)
one_reading bs (r ∷ rs) [] h k = absurd (none_read r rs bs k h)
one_reading bs (r ∷ rs) (s ∷ ss) h k =
    let x = text_begins r rs bs h in
    let y = text_begins s ss bs k in
    let same = begins_once r s x.0 y.0 bs x.1 y.1 in
    let rest = one_reading y.0 rs ss (subst (IsText rs) same.1 x.2) y.2 in
    (λ i. same.0 i ∷ rest i)

first_record : (fs : List Form) (after bs : List ℕ) → Begins fs after bs → First fs after bs
first_record fs after bs h =
    record { begins = h; reads_on = λ rs k. begins_text fs rs after bs h k; only = only; alone = one_reading bs; unbroken = λ e k x. unbroken fs after bs e k h x }
  where
    only : (rs : List (List Form)) → IsText rs bs → (ss : List (List Form)) × (rs ≡ fs ∷ ss) × IsText ss after
    only [] none = absurd (omega (arith, ap length none, h.some))
    only (r ∷ rs) k =
        let x = text_begins r rs bs k in
        let same = begins_once r fs x.0 after bs x.1 h in
        (rs, ap (λ s. s ∷ rs) same.0, subst (IsText rs) same.1 x.2)

first_offence : (e : Refusal) (k : ℕ) (bs : List ℕ) → Breaks e k bs → Broken e k bs
first_offence e k bs x = record { breaks = x; only = λ d j y. breaks_once e d k j bs x y; unread = unread }
  where
    unread : (rs : List (List Form)) → IsText rs bs → ⊥
    unread [] none = not_empty e k bs x none
    unread (r ∷ rs) h = let y = text_begins r rs bs h in unbroken r y.0 bs e k y.1 x

-- a record takes a byte at least
shorter_after : (fs : List Form) (after bs : List ℕ) → Begins fs after bs → length after < length bs
shorter_after fs after bs h =
    ⊎_elim (λ e. omega (arith, simp length-append at (ap length e))) (λ p. omega (arith, ap length p.1, h.some)) h.spelt

-- what a reader answers where its next record breaks, and where it stands
pub stopped : (r : Reader) (old : List Placed) (f : Fault) → length (left r) ≤ longest → (f.«record» ≡ handed r + 1) × Breaks f.refusal f.field (left r) → Reads r r old old (Err f)
stopped r old f short h = (broken short h.0 (first_offence f.refusal f.field (left r) h.1), refl, refl)

pub handed_out : (r s : Reader) (old new : List Placed) (n : ℕ) (row : Row) → length (left r) ≤ longest → n ≡ handed r + 1 → left s ≡ row.rest.now → handed s ≡ n → Split n (left r) old new (Ok row) → Reads r s old new (Ok (Some (record { number = n; count = row.count })))
handed_out r s old new n row short is after count h =
    let begins = subst (λ t. Begins (forms h.0) t (left r)) (sym after) h.2 in
    record {
      short = short;
      ps = h.0;
      first = first_record (forms h.0) (left s) (left r) begins;
      parts = all_parts (forms h.0) (left s) (left r) begins;
      doubled = all_doubled (forms h.0) begins.is_record.1;
      numbered = subst (λ m. Numbered m 1 h.0) is h.1;
      number_is = is;
      count_is = h.3;
      written = h.4;
      on = count ∙ is;
      shorter = shorter_after (forms h.0) (left s) (left r) begins;
    }
