-- What is wrong where a field should stand.
use Rattle.std.specs.Prelude.{◌≡◌, ℕ, List, [], ◌∷◌, ◌++◌, ◌≢◌}
use Rattle.std.specs.List.{AllByRecursion}
use Rattle.faults.specs.declared.Refusal.{Refusal}
use Rattle.faults.specs.declared.Refusal.TheVariants.{BrokenQuotes, StrayByte}
use Rattle.text.specs.Grammar.{COMMA, CR, LF, DQUOTE, TEXTDATA, Inside}

-- what may follow a field: the end of the text, a comma, or a line end
pub data Follows : List ℕ → Type 0 where
  the_end : Follows []
  a_comma : {bs : List ℕ} → Follows (COMMA ∷ bs)
  a_line_end : {bs : List ℕ} → Follows (CR ∷ LF ∷ bs)

-- the bytes do not begin with a quote
abbrev pub Unquoted : List ℕ → Type 0
Unquoted [] = Unit {0}
Unquoted (b ∷ bs) = b ≡ DQUOTE → ⊥

-- a byte that no bare field holds: a quote, a LF, or a CR without its LF
pub data Stray : List ℕ → Type 0 where
  quote : {bs : List ℕ} → Stray (DQUOTE ∷ bs)
  lf : {bs : List ℕ} → Stray (LF ∷ bs)
  cr : {bs : List ℕ} → ((cs : List ℕ) → bs ≢ LF ∷ cs) → Stray (CR ∷ bs)

-- bs begins with no field, and is refused so
pub data Offence : Refusal → List ℕ → Type 0 where
  -- a quoted field is not closed
  unclosed : {bs : List ℕ} (qs : List ℕ) → bs ≡ DQUOTE ∷ qs → Inside qs → Offence BrokenQuotes bs
  -- after the quote that closes it stands what may not follow
  run_on : {bs : List ℕ} (qs after : List ℕ) → bs ≡ DQUOTE ∷ qs ++ DQUOTE ∷ after → Inside qs → Unquoted after → (Follows after → ⊥) → Offence BrokenQuotes bs
  -- a bare field holds what it may not
  stray : {bs : List ℕ} (front after : List ℕ) → bs ≡ front ++ after → AllByRecursion TEXTDATA front → Stray after → Unquoted bs → Offence StrayByte bs
