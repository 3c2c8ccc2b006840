-- A field at the front of bytes is the only one there, and then nothing offends there.
use Rattle.std.proofs.Common.{◌≡◌, ℕ, List, [], ◌∷◌, ◌++◌, sym, refl, ◌∙◌, subst, append_assoc, arith}
use Rattle.std.specs.List.{AllByRecursion}
use Rattle.faults.specs.declared.Refusal.{Refusal}
use Rattle.text.specs.Grammar.{DQUOTE, TEXTDATA, Inside, nothing, other, doubled, Form, non_escaped, escaped, IsField, spelling}
use Rattle.text.specs.Offences.{Follows, the_end, a_comma, a_line_end, Unquoted, Stray, quote, lf, cr, Offence, unclosed, run_on, stray}

pub tail_is : {a b : ℕ} {xs ys : List ℕ} → a ∷ xs ≡ b ∷ ys → xs ≡ ys
tail_is e = cc

-- bytes between quotes end at one quote
closes_once : {qs rs : List ℕ} (t u : List ℕ) → Inside qs → Inside rs → Unquoted t → Unquoted u → qs ++ DQUOTE ∷ t ≡ rs ++ DQUOTE ∷ u → (qs ≡ rs) × (t ≡ u)
closes_once t u nothing nothing m n e = (refl, cc)
closes_once t u nothing (other k j) m n e = absurd (k cc)
closes_once t u nothing (doubled j) m n e = absurd (subst Unquoted (tail_is e) m refl)
closes_once t u (other k i) nothing m n e = absurd (k cc)
closes_once t u (other k i) (other l j) m n e = let rest = closes_once t u i j m n (tail_is e) in (cc, rest.1)
closes_once t u (other k i) (doubled j) m n e = absurd (k cc)
closes_once t u (doubled i) nothing m n e = absurd (subst Unquoted (sym (tail_is e)) n refl)
closes_once t u (doubled i) (other l j) m n e = absurd (l cc)
closes_once t u (doubled i) (doubled j) m n e = let rest = closes_once t u i j m n (tail_is (tail_is e)) in (cc, rest.1)

-- and so are not all of the text
never_open : {qs rs : List ℕ} (t : List ℕ) → Inside qs → Inside rs → Unquoted t → qs ≡ rs ++ DQUOTE ∷ t → ⊥
never_open t nothing nothing n e = cc
never_open t nothing (other l j) n e = cc
never_open t nothing (doubled j) n e = cc
never_open t (other k i) nothing n e = k cc
never_open t (other k i) (other l j) n e = never_open t i j n (tail_is e)
never_open t (other k i) (doubled j) n e = k cc
never_open t (doubled i) nothing n e = subst Unquoted (sym (tail_is e)) n refl
never_open t (doubled i) (other l j) n e = l cc
never_open t (doubled i) (doubled j) n e = never_open t i j n (tail_is (tail_is e))

-- bs begins with no TEXTDATA
abbrev Halts : List ℕ → Type 0
Halts [] = Unit {0}
Halts (b ∷ bs) = TEXTDATA b → ⊥

halts_follows : {t : List ℕ} → Follows t → Halts t
halts_follows the_end = tt
halts_follows a_comma = λ d. d.no_comma refl
halts_follows a_line_end = λ d. d.no_cr refl

halts_stray : {t : List ℕ} → Stray t → Halts t
halts_stray quote = λ d. d.no_quote refl
halts_stray lf = λ d. d.no_lf refl
halts_stray (cr lone) = λ d. d.no_cr refl

unquoted_follows : {t : List ℕ} → Follows t → Unquoted t
unquoted_follows the_end = tt
unquoted_follows a_comma = λ e. omega arith
unquoted_follows a_line_end = λ e. omega arith

-- what strays may not follow a field
stray_follows : {t u : List ℕ} → Stray t → Follows u → t ≡ u → ⊥
stray_follows quote the_end e = cc
stray_follows quote a_comma e = grind arith
stray_follows quote a_line_end e = grind arith
stray_follows lf the_end e = cc
stray_follows lf a_comma e = grind arith
stray_follows lf a_line_end e = grind arith
stray_follows (cr lone) the_end e = cc
stray_follows (cr lone) a_comma e = grind arith
stray_follows (cr lone) (a_line_end {bs}) e = lone bs (tail_is e)

-- TEXTDATA reaches up to one place
halts_once : (f g t u : List ℕ) → AllByRecursion TEXTDATA f → AllByRecursion TEXTDATA g → Halts t → Halts u → f ++ t ≡ g ++ u → (f ≡ g) × (t ≡ u)
halts_once [] [] t u a b h k e = (refl, e)
halts_once [] (y ∷ g) t u a b h k e = absurd (subst Halts e h b.0)
halts_once (x ∷ f) [] t u a b h k e = absurd (subst Halts (sym e) k a.0)
halts_once (x ∷ f) (y ∷ g) t u a b h k e = let rest = halts_once f g t u a.1 b.1 h k (tail_is e) in (cc, rest.1)

-- a bare field, or nothing, and what may follow begin with no quote
unquoted_bare : (f t : List ℕ) → AllByRecursion TEXTDATA f → Follows t → Unquoted (f ++ t)
unquoted_bare [] t a h = unquoted_follows h
unquoted_bare (b ∷ f) t a h = a.0.no_quote

-- the field at the front, and what follows it, are determined
pub field_once : (f g : Form) (t u : List ℕ) → IsField f → IsField g → Follows t → Follows u → spelling f ++ t ≡ spelling g ++ u → (f ≡ g) × (t ≡ u)
field_once (non_escaped f) (non_escaped g) t u a b h k e =
    let same = halts_once f g t u a b (halts_follows h) (halts_follows k) e in
    (cc, same.1)
field_once (non_escaped f) (escaped g) t u a b h k e = absurd (subst Unquoted e (unquoted_bare f t a h) refl)
field_once (escaped f) (non_escaped g) t u a b h k e = absurd (subst Unquoted (sym e) (unquoted_bare g u b k) refl)
field_once (escaped f) (escaped g) t u a b h k e =
    let inner = sym (append_assoc f (DQUOTE ∷ []) t) ∙ tail_is e ∙ append_assoc g (DQUOTE ∷ []) u in
    let same = closes_once t u a b (unquoted_follows h) (unquoted_follows k) inner in
    (cc, same.1)

-- where a field stands, nothing offends
pub field_stands : (f : Form) (t bs : List ℕ) (e : Refusal) → IsField f → Follows t → bs ≡ spelling f ++ t → Offence e bs → ⊥
field_stands (non_escaped f) t bs e a h is (unclosed qs eq i) = subst Unquoted (sym is ∙ eq) (unquoted_bare f t a h) refl
field_stands (non_escaped f) t bs e a h is (run_on qs after eq i m n) = subst Unquoted (sym is ∙ eq) (unquoted_bare f t a h) refl
field_stands (non_escaped f) t bs e a h is (stray front after eq b wrong m) =
    stray_follows wrong h (sym (halts_once f front t after a b (halts_follows h) (halts_stray wrong) (sym is ∙ eq)).1)
field_stands (escaped f) t bs e a h is (unclosed qs eq i) =
    never_open t i a (unquoted_follows h) (tail_is (sym eq ∙ is) ∙ append_assoc f (DQUOTE ∷ []) t)
field_stands (escaped f) t bs e a h is (run_on qs after eq i m n) =
    let inner = tail_is (sym eq ∙ is) ∙ append_assoc f (DQUOTE ∷ []) t in
    n (subst Follows (sym (closes_once after t i a m (unquoted_follows h) inner).1) h)
field_stands (escaped f) t bs e a h is (stray front after eq b wrong m) = subst Unquoted is m refl

-- an offence has one cause
pub offence_once : (bs : List ℕ) (e d : Refusal) → Offence e bs → Offence d bs → e ≡ d
offence_once bs e d (unclosed qs eq i) (unclosed rs eq' j) = refl
offence_once bs e d (unclosed qs eq i) (run_on rs after eq' j m n) = refl
offence_once bs e d (unclosed qs eq i) (stray front after eq' b wrong m) = absurd (subst Unquoted eq m refl)
offence_once bs e d (run_on qs after eq i m n) (unclosed rs eq' j) = refl
offence_once bs e d (run_on qs after eq i m n) (run_on rs after' eq' j m' n') = refl
offence_once bs e d (run_on qs after eq i m n) (stray front after' eq' b wrong m') = absurd (subst Unquoted eq m' refl)
offence_once bs e d (stray front after eq b wrong m) (unclosed rs eq' j) = absurd (subst Unquoted eq' m refl)
offence_once bs e d (stray front after eq b wrong m) (run_on rs after' eq' j m' n') = absurd (subst Unquoted eq' m refl)
offence_once bs e d (stray front after eq b wrong m) (stray front' after' eq' b' wrong' m') = refl
