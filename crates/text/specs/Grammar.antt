-- The grammar of record text, rule by rule as RFC 4180 has it. Text is a list of bytes.
use Rattle.std.specs.Prelude.{◌≡◌, ℕ, ◌<◌, ◌⊎◌, List, [], ◌∷◌, ◌++◌, length, ◌≢◌}
use Rattle.std.specs.List.{flat_map, AllByRecursion}

-- the bytes that separate
abbrev pub COMMA : ℕ
COMMA = 44

abbrev pub CR : ℕ
CR = 13

abbrev pub LF : ℕ
LF = 10

abbrev pub DQUOTE : ℕ
DQUOTE = 34

-- TEXTDATA: every other byte
pub record TEXTDATA (b : ℕ) : Type 0 where
  pub no_comma : b ≡ COMMA → ⊥
  pub no_cr : b ≡ CR → ⊥
  pub no_lf : b ≡ LF → ⊥
  pub no_quote : b ≡ DQUOTE → ⊥

-- *(TEXTDATA / COMMA / CR / LF / 2DQUOTE): any bytes, but each quote doubled
pub data Inside : List ℕ → Type 0 where
  nothing : Inside []
  other : {b : ℕ} {bs : List ℕ} → (b ≢ DQUOTE) → Inside bs → Inside (b ∷ bs)
  doubled : {bs : List ℕ} → Inside bs → Inside (DQUOTE ∷ DQUOTE ∷ bs)

-- a field: bare with these bytes, or quoted with these between the quotes
pub data Form : Type 0 where
  non_escaped : List ℕ → Form
  escaped : List ℕ → Form

-- field = (escaped / non-escaped), escaped = DQUOTE *(TEXTDATA / COMMA / CR / LF / 2DQUOTE) DQUOTE, non-escaped = *TEXTDATA
abbrev pub IsField : Form → Type 0
IsField (non_escaped bs) = AllByRecursion TEXTDATA bs
IsField (escaped bs) = Inside bs

-- how a field stands in the text
abbrev pub spelling : Form → List ℕ
spelling (non_escaped bs) = bs
spelling (escaped bs) = DQUOTE ∷ bs ++ DQUOTE ∷ []

-- record = field *(COMMA field)
abbrev pub IsRecord : List Form → Type 0
IsRecord fs = (0 < length fs) × AllByRecursion IsField fs

-- how a record stands in the text
abbrev pub spelled_record : List Form → List ℕ
spelled_record [] = []
spelled_record (f ∷ fs) = spelling f ++ flat_map (λ g. COMMA ∷ spelling g) fs

-- record *(CRLF record)
abbrev pub spelled : List (List Form) → List ℕ
spelled [] = []
spelled (r ∷ rs) = spelled_record r ++ flat_map (λ s. CR ∷ LF ∷ spelled_record s) rs

abbrev pub last_of : List Form → List (List Form) → List Form
last_of r [] = r
last_of r (s ∷ rs) = last_of s rs

-- file = record *(CRLF record) [CRLF]: bs is these records, and a final CR LF begins none.
-- So empty text has no record, and the last one is not empty where it stands without CR LF.
abbrev pub IsText : List (List Form) → List ℕ → Type 0
IsText [] bs = bs ≡ []
IsText (r ∷ rs) bs =
    AllByRecursion IsRecord (r ∷ rs) × ((bs ≡ spelled (r ∷ rs) ++ CR ∷ LF ∷ []) ⊎ ((bs ≡ spelled (r ∷ rs)) × (0 < length (spelled_record (last_of r rs)))))

-- bs has one reading at most
abbrev pub OneReading : List ℕ → Type 0
OneReading bs = (rs ss : List (List Form)) → IsText rs bs → IsText ss bs → rs ≡ ss
