-- Records: the first one of a text is determined, and so is the first offence.
use Rattle.std.proofs.Common.{◌≡◌, ℕ, ◌⊎◌, List, [], ◌∷◌, ◌++◌, length, sym, refl, ap, ◌∙◌, subst, inl, inr, ⊎_elim, append_assoc, append-nil, arith, length-append}
use Rattle.std.specs.List.{flat_map, AllByRecursion}
use Rattle.faults.specs.declared.Refusal.{Refusal}
use Rattle.text.specs.Grammar.{COMMA, CR, LF, Form, IsField, spelling, IsRecord, spelled_record}
use Rattle.text.specs.Offences.{Follows, the_end, a_comma, a_line_end, Offence, unclosed, run_on, stray, Stray, quote, lf, cr}
use Rattle.text.specs.Records.{Begins, Breaks}
use Rattle.text.proofs.Unique.{tail_is, field_once, field_stands, offence_once}

-- a field after its comma, and before it
abbrev pub after_comma : Form → List ℕ
after_comma f = COMMA ∷ spelling f

abbrev pub before_comma : Form → List ℕ
before_comma f = spelling f ++ COMMA ∷ []

-- what ends a record
data Ends : List ℕ → Type 0 where
  at_end : Ends []
  at_line : {bs : List ℕ} → Ends (CR ∷ LF ∷ bs)

no_comma : {t bs : List ℕ} → Ends t → t ≡ COMMA ∷ bs → ⊥
no_comma at_end e = cc
no_comma at_line e = grind arith

-- what comes after a field of a record may follow it
follows_in : (fs : List Form) (t : List ℕ) → Ends t → Follows (flat_map after_comma fs ++ t)
follows_in [] t at_end = the_end
follows_in [] t at_line = a_line_end
follows_in (f ∷ fs) t n = a_comma

-- the record at the front, and what follows it, are determined
one_field : (f g : Form) (fs gs : List Form) (t u : List ℕ) → IsField f → IsField g → Ends t → Ends u → spelled_record (f ∷ fs) ++ t ≡ spelled_record (g ∷ gs) ++ u → (f ≡ g) × (flat_map after_comma fs ++ t ≡ flat_map after_comma gs ++ u)
one_field f g fs gs t u a b m n e =
    field_once f g _ _ a b (follows_in fs t m) (follows_in gs u n)
    (sym (append_assoc (spelling f) (flat_map after_comma fs) t) ∙ e ∙ append_assoc (spelling g) (flat_map after_comma gs) u)

more_once : (fs gs : List Form) (t u : List ℕ) → AllByRecursion IsField fs → AllByRecursion IsField gs → Ends t → Ends u → flat_map after_comma fs ++ t ≡ flat_map after_comma gs ++ u → (fs ≡ gs) × (t ≡ u)
more_once [] [] t u a b m n e = (refl, e)
more_once [] (g ∷ gs) t u a b m n e = absurd (no_comma m e)
more_once (f ∷ fs) [] t u a b m n e = absurd (no_comma n (sym e))
more_once (f ∷ fs) (g ∷ gs) t u a b m n e =
    let first = one_field f g fs gs t u a.0 b.0 m n (tail_is e) in
    let rest = more_once fs gs t u a.1 b.1 m n first.1 in
    (cc, rest.1)

row_once : (fs gs : List Form) (t u : List ℕ) → IsRecord fs → IsRecord gs → Ends t → Ends u → spelled_record fs ++ t ≡ spelled_record gs ++ u → (fs ≡ gs) × (t ≡ u)
row_once [] gs t u a b m n e = absurd (omega (arith, a.0))
row_once (f ∷ fs) [] t u a b m n e = absurd (omega (arith, b.0))
row_once (f ∷ fs) (g ∷ gs) t u a b m n e =
    let first = one_field f g fs gs t u a.1.0 b.1.0 m n e in
    let rest = more_once fs gs t u a.1.1 b.1.1 m n first.1 in
    (cc, rest.1)

-- the end of a record, with what comes after it
record Tail (fs : List Form) (after bs : List ℕ) : Type 0 where
  tail : List ℕ
  ends : Ends tail
  spelt : bs ≡ spelled_record fs ++ tail
  next : (tail ≡ CR ∷ LF ∷ after) ⊎ ((tail ≡ []) × (after ≡ []))

tail_of : (fs : List Form) (after bs : List ℕ) → Begins fs after bs → Tail fs after bs
tail_of fs after bs h =
    ⊎_elim (λ e. record { tail = CR ∷ LF ∷ after; ends = at_line; spelt = e; next = inl refl })
    (λ p. record { tail = []; ends = at_end; spelt = p.0 ∙ sym (append-nil (spelled_record fs)); next = inr (refl, p.1) }) h.spelt

same_next : (t u after beyond : List ℕ) → t ≡ u → (t ≡ CR ∷ LF ∷ after) ⊎ ((t ≡ []) × (after ≡ [])) → (u ≡ CR ∷ LF ∷ beyond) ⊎ ((u ≡ []) × (beyond ≡ [])) → after ≡ beyond
same_next t u after beyond e p q =
    ⊎_elim
    (λ a. ⊎_elim (λ b. cc) (λ b. absurd cc) q)
    (λ a. ⊎_elim (λ b. absurd cc) (λ b. cc) q) p

pub begins_once : (fs gs : List Form) (after beyond bs : List ℕ) → Begins fs after bs → Begins gs beyond bs → (fs ≡ gs) × (after ≡ beyond)
begins_once fs gs after beyond bs h k =
    let x = tail_of fs after bs h in
    let y = tail_of gs beyond bs k in
    let same = row_once fs gs x.tail y.tail h.is_record k.is_record x.ends y.ends (sym x.spelt ∙ y.spelt) in
    (same.0, same_next x.tail y.tail after beyond same.1 x.next y.next)

-- fields that stand before an offence, each with its comma
pub flat_lead : (f : Form) (fs : List Form) (w : List ℕ) → flat_map before_comma (f ∷ fs) ++ w ≡ spelling f ++ COMMA ∷ (flat_map before_comma fs ++ w)
flat_lead f fs w = append_assoc (before_comma f) (flat_map before_comma fs) w ∙ append_assoc (spelling f) (COMMA ∷ []) (flat_map before_comma fs ++ w)

lead_once : (fs gs : List Form) (w v : List ℕ) (e d : Refusal) → AllByRecursion IsField fs → AllByRecursion IsField gs → flat_map before_comma fs ++ w ≡ flat_map before_comma gs ++ v → Offence e w → Offence d v → (e ≡ d) × (length fs ≡ length gs)
lead_once [] [] w v e d a b is m n = (offence_once v e d (subst (Offence e) is m) n, refl)
lead_once [] (g ∷ gs) w v e d a b is m n = absurd (field_stands g _ w e b.0 a_comma (is ∙ flat_lead g gs v) m)
lead_once (f ∷ fs) [] w v e d a b is m n = absurd (field_stands f _ v d a.0 a_comma (sym is ∙ flat_lead f fs w) n)
lead_once (f ∷ fs) (g ∷ gs) w v e d a b is m n =
    let same = field_once f g _ _ a.0 b.0 a_comma a_comma (sym (flat_lead f fs w) ∙ is ∙ flat_lead g gs v) in
    let rest = lead_once fs gs w v e d a.1 b.1 (tail_is same.1) m n in
    (rest.0, omega arith)

pub breaks_once : (e d : Refusal) (k j : ℕ) (bs : List ℕ) → Breaks e k bs → Breaks d j bs → (d ≡ e) × (j ≡ k)
breaks_once e d k j bs x y =
    let same = lead_once y.before x.before y.wrong x.wrong d e y.are_fields x.are_fields (sym y.spelt ∙ x.spelt) y.offence x.offence in
    (same.0, omega (arith, same.1, x.counted, y.counted))

-- where a record stands, nothing offends
row_stands : (gs : List Form) (f : Form) (fs : List Form) (t w : List ℕ) (e : Refusal) → AllByRecursion IsField (f ∷ fs) → Ends t → AllByRecursion IsField gs → spelled_record (f ∷ fs) ++ t ≡ flat_map before_comma gs ++ w → Offence e w → ⊥
row_stands [] f fs t w e a n b is m = field_stands f _ w e a.0 (follows_in fs t n) (sym is ∙ append_assoc (spelling f) (flat_map after_comma fs) t) m
row_stands (g ∷ gs) f [] t w e a n b is m =
    no_comma n (field_once f g _ _ a.0 b.0 (follows_in [] t n) a_comma (sym (append_assoc (spelling f) [] t) ∙ is ∙ flat_lead g gs w)).1
row_stands (g ∷ gs) f (h ∷ fs) t w e a n b is m =
    row_stands gs h fs t w e a.1 n b.1
    (tail_is (field_once f g _ _ a.0 b.0 a_comma a_comma (sym (append_assoc (spelling f) (flat_map after_comma (h ∷ fs)) t) ∙ is ∙ flat_lead g gs w)).1) m

pub unbroken : (fs : List Form) (after bs : List ℕ) (e : Refusal) (k : ℕ) → Begins fs after bs → Breaks e k bs → ⊥
unbroken [] after bs e k h x = absurd (omega (arith, h.is_record.0))
unbroken (f ∷ fs) after bs e k h x =
    let t = tail_of (f ∷ fs) after bs h in
    row_stands x.before f fs t.tail x.wrong e h.is_record.1 t.ends x.are_fields (sym t.spelt ∙ x.spelt) x.offence

-- empty text does not offend
no_offence : (e : Refusal) (w : List ℕ) → w ≡ [] → Offence e w → ⊥
no_offence e w is (unclosed qs eq i) = cc
no_offence e w is (run_on qs after eq i m n) = cc
no_offence e w is (stray [] after eq a wrong m) = no_stray wrong (sym eq ∙ is)
  where
    no_stray : {t : List ℕ} → Stray t → t ≡ [] → ⊥
    no_stray quote e = cc
    no_stray lf e = cc
    no_stray (cr lone) e = cc
no_offence e w is (stray (b ∷ front) after eq a wrong m) = cc

pub not_empty : (e : Refusal) (k : ℕ) (bs : List ℕ) → Breaks e k bs → bs ≡ [] → ⊥
not_empty e k bs x is = go x.before (sym x.spelt ∙ is)
  where
    go : (fs : List Form) → flat_map before_comma fs ++ x.wrong ≡ [] → ⊥
    go [] none = no_offence e x.wrong none x.offence
    go (f ∷ fs) none = let long = simp (length-append) at (ap length (sym (flat_lead f fs x.wrong) ∙ none)) in omega arith
