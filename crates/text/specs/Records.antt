-- The record at the front of what is left of a text, or the first offence in it.
use Rattle.std.specs.Prelude.{◌≡◌, ℕ, ◌+◌, ◌<◌, ◌⊎◌, List, [], ◌∷◌, ◌++◌, length}
use Rattle.std.specs.List.{flat_map, AllByRecursion}
use Rattle.faults.specs.declared.Refusal.{Refusal}
use Rattle.text.specs.Grammar.{COMMA, CR, LF, Form, IsField, spelling, IsRecord, spelled_record, IsText, OneReading}
use Rattle.text.specs.Offences.{Offence}

-- bs begins with the record fs, which a CR LF or the end of the text ends, and `after` comes next
pub record Begins (fs : List Form) (after bs : List ℕ) : Type 0 where
  pub is_record : IsRecord fs
  pub some : 0 < length bs
  pub spelt : (bs ≡ spelled_record fs ++ CR ∷ LF ∷ after) ⊎ ((bs ≡ spelled_record fs) × (after ≡ []))

-- the record that bs begins with breaks at its k-th field: the fields before it stand, each with its comma
pub record Breaks (e : Refusal) (k : ℕ) (bs : List ℕ) : Type 0 where
  pub before : List Form
  pub are_fields : AllByRecursion IsField before
  pub counted : k ≡ length before + 1
  pub wrong : List ℕ
  pub spelt : bs ≡ flat_map (λ f. spelling f ++ COMMA ∷ []) before ++ wrong
  pub offence : Offence e wrong

-- fs is the first record of bs: every reading of bs is fs and a reading of `after`, there is one at most, and nothing offends in fs
pub record First (fs : List Form) (after bs : List ℕ) : Type 0 where
  pub begins : Begins fs after bs
  pub reads_on : (rs : List (List Form)) → IsText rs after → IsText (fs ∷ rs) bs
  pub only : (rs : List (List Form)) → IsText rs bs → (ss : List (List Form)) × (rs ≡ fs ∷ ss) × IsText ss after
  pub alone : OneReading bs
  pub unbroken : (e : Refusal) (k : ℕ) → Breaks e k bs → ⊥

-- bs has no first record: no reading of bs is there, and this is the one offence
pub record Broken (e : Refusal) (k : ℕ) (bs : List ℕ) : Type 0 where
  pub breaks : Breaks e k bs
  pub only : (d : Refusal) (j : ℕ) → Breaks d j bs → (d ≡ e) × (j ≡ k)
  pub unread : (rs : List (List Form)) → IsText rs bs → ⊥
