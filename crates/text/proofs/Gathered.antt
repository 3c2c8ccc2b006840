-- The fields of a record that are gathered so far, each with its comma.
use Rattle.std.proofs.Common.{◌≡◌, ℕ, ◌+◌, ◌<◌, ◌≤◌, ◌⊎◌, List, [], ◌∷◌, ◌++◌, length, set, sym, refl, ap, ◌∙◌, subst, inl, inr, ⊎_elim, append_assoc, append-nil, arith, length-append}
use lib.ListN.{length-map}
use Rattle.std.specs.List.{flat_map, AllByRecursion}
use Rattle.std.proofs.ByRecursion.{All-push}
use Rattle.std.proofs.lemmas.List.{flat_map_more, map_push, length_push, take_all}
use Rattle.text.specs.declared.field.Placed.{Placed}
use Rattle.text.specs.declared.machine.Ending.{Ending}
use Rattle.text.specs.declared.machine.Ending.TheVariants.{Comma, Line, Text}
use Rattle.text.specs.Fronts.{form, forms, Numbered, laid, Ended, Leads}
use Rattle.text.specs.Grammar.{COMMA, CR, LF, Form, IsField, spelling, spelled_record}
use Rattle.text.specs.Records.{Begins}
use Rattle.text.proofs.Rows.{after_comma, before_comma}

-- record n: the fields ps, k of them, stand at the front of bs, and `rest` is left
pub record Sofar (n k : ℕ) (ps : List Placed) (rest bs : List ℕ) : Type 0 where
  pub are_fields : AllByRecursion IsField (forms ps)
  pub numbered : Numbered n 1 ps
  pub count : k ≡ length ps
  pub room : k + length rest ≤ length bs
  pub spelt : bs ≡ flat_map before_comma (forms ps) ++ rest

numbered_push : (n k : ℕ) (ps : List Placed) (p : Placed) → Numbered n k ps → p.«record» ≡ n → p.field ≡ k + length ps → Numbered n k (ps ++ p ∷ [])
numbered_push n k [] p h e f = (e, omega arith, tt)
numbered_push n k (q ∷ ps) p h e f = (h.0, h.1, numbered_push n (k + 1) ps p h.2 e (omega arith))

-- a record is its fields with their commas, but for the last
commas : (fs : List Form) (f : Form) → flat_map after_comma (fs ++ f ∷ []) ≡ COMMA ∷ (flat_map before_comma fs ++ spelling f)
commas [] f = append-nil (COMMA ∷ spelling f)
commas (g ∷ fs) f = ap (λ cs. COMMA ∷ spelling g ++ cs) (commas fs f) ∙ ap (λ cs. COMMA ∷ cs) (sym (append_assoc (spelling g) (COMMA ∷ []) (flat_map before_comma fs ++ spelling f)) ∙ sym (append_assoc (before_comma g) (flat_map before_comma fs) (spelling f)))

spelled_push : (fs : List Form) (f : Form) → spelled_record (fs ++ f ∷ []) ≡ flat_map before_comma fs ++ spelling f
spelled_push [] f = append-nil (spelling f)
spelled_push (g ∷ fs) f = ap (λ cs. spelling g ++ cs) (commas fs f) ∙ sym (append_assoc (spelling g) (COMMA ∷ []) (flat_map before_comma fs ++ spelling f)) ∙ sym (append_assoc (before_comma g) (flat_map before_comma fs) (spelling f))

-- what ends a record after its last field
ended_row : (e : Ending) (sr after tail bs : List ℕ) → (e ≡ Line) ⊎ (e ≡ Text) → Ended e after tail → bs ≡ sr ++ tail → (bs ≡ sr ++ CR ∷ LF ∷ after) ⊎ ((bs ≡ sr) × (after ≡ []))
ended_row Comma sr after tail bs which h is = ⊎_elim (λ e. absurd cc) (λ e. absurd cc) which
ended_row Line sr after tail bs which h is = inl (is ∙ ap (λ t. sr ++ t) h)
ended_row Text sr after tail bs which h is = inr (is ∙ ap (λ t. sr ++ t) h.0 ∙ append-nil sr, h.1)

module _ (n k : ℕ) (ps : List Placed) (rest bs : List ℕ) (so : Sofar n k ps rest bs) where
  module _ (p : Placed) (e : Ending) (after : List ℕ) (is : p.«record» ≡ n) (at : p.field ≡ k + 1) (leads : Leads (form p.content) e after rest) where
    all_fields : AllByRecursion IsField (forms (ps ++ p ∷ []))
    all_fields = subst (AllByRecursion IsField) (sym (map_push (λ q. form q.content) ps p)) (All-push IsField (forms ps) (form p.content) so.are_fields leads.is_field)

    pub all_numbered : Numbered n 1 (ps ++ p ∷ [])
    all_numbered = numbered_push n 1 ps p so.numbered is (omega (arith, so.count))

    pub all_counted : k + 1 ≡ length (ps ++ p ∷ [])
    all_counted = omega (arith, so.count, length_push ps p)

    forms_are : forms (ps ++ p ∷ []) ≡ forms ps ++ form p.content ∷ []
    forms_are = map_push (λ q. form q.content) ps p

    -- a comma: another field follows
    module _ (c : e ≡ Comma) where
      rest_is : rest ≡ spelling (form p.content) ++ COMMA ∷ after
      rest_is = leads.spelt ∙ ap (λ t. spelling (form p.content) ++ t) (subst (λ x. Ended x after leads.tail) c leads.ended)

      shorter : length after < length rest
      shorter = omega (arith, simp length-append at (ap length rest_is))

      pub one_more : Sofar n (k + 1) (ps ++ p ∷ []) after bs
      one_more = record {
        are_fields = all_fields;
        numbered = all_numbered;
        count = all_counted;
        room = omega (arith, so.room, shorter);
        spelt =
            so.spelt ∙ ap (λ cs. flat_map before_comma (forms ps) ++ cs) (rest_is ∙ sym (append_assoc (spelling (form p.content)) (COMMA ∷ []) after))
            ∙ sym (append_assoc (flat_map before_comma (forms ps)) (before_comma (form p.content)) after)
            ∙ ap (λ cs. cs ++ after) (flat_map_more before_comma [] (forms ps) (form p.content) ∙ ap (flat_map before_comma) (sym forms_are));
      }

    -- a line end, or the end of the text: the record is complete
    pub last_one : (e ≡ Line) ⊎ (e ≡ Text) → 0 < length bs → Begins (forms (ps ++ p ∷ [])) after bs
    last_one which some = record {
      is_record = (omega (arith, length-map (ps ++ p ∷ []) (λ q. form q.content), length_push ps p), all_fields);
      some = some;
      spelt =
          ended_row e (spelled_record (forms (ps ++ p ∷ []))) after leads.tail bs which leads.ended
          (so.spelt ∙ ap (λ cs. flat_map before_comma (forms ps) ++ cs) leads.spelt
          ∙ sym (append_assoc (flat_map before_comma (forms ps)) (spelling (form p.content)) leads.tail)
          ∙ ap (λ cs. cs ++ leads.tail) (sym (spelled_push (forms ps) (form p.content)) ∙ ap spelled_record (sym forms_are)));
    }

-- nothing changes where no field is laid over the caller's list
laid_none : (old : List Placed) → old ≡ laid [] old
laid_none old = ap (λ ps. ps ++ old) (sym (take_all (length old) [] (omega arith)))

-- one more field in it, where it reaches so far
laid_push : (ps : List Placed) (p : Placed) (old : List Placed) → set (laid ps old) (length ps) p ≡ laid (ps ++ p ∷ []) old
laid_push [] p [] = refl
laid_push [] p (q ∷ old) = ap (λ qs. p ∷ qs) (laid_none old)
laid_push (r ∷ ps) p [] = refl
laid_push (r ∷ ps) p (q ∷ old) = ap (λ qs. r ∷ qs) (laid_push ps p old)

pub laid_on : (ps : List Placed) (p : Placed) (k : ℕ) (old new last : List Placed) → new ≡ laid ps old → k ≡ length ps → last ≡ set new k p → last ≡ laid (ps ++ p ∷ []) old
laid_on ps p k old new last is count put = put ∙ (λ i. set (is i) (count i) p) ∙ laid_push ps p old
