-- What a field says: its content.
use Rattle.std.specs.Prelude.{◌≡◌, ℕ, cond, ◌&&◌, List, [], ◌∷◌, length, take, drop, ◌==◌}
use Rattle.text.specs.declared.field.Field.{Field}
use Rattle.text.specs.Fronts.{form}
use Rattle.text.specs.Grammar.{DQUOTE, Form, non_escaped, escaped}

-- each quote that stands twice, once
abbrev pub singled : List ℕ → List ℕ
singled [] = []
singled (b ∷ []) = b ∷ []
singled (b ∷ c ∷ bs) = cond (b == DQUOTE && c == DQUOTE) (DQUOTE ∷ singled bs) (b ∷ singled (c ∷ bs))

-- each quote twice
abbrev pub twice : List ℕ → List ℕ
twice [] = []
twice (b ∷ bs) = cond (b == DQUOTE) (DQUOTE ∷ DQUOTE ∷ twice bs) (b ∷ twice bs)

-- the outer quotes are not said, and a doubled quote between them says one
abbrev pub saying : Form → List ℕ
saying (non_escaped bs) = bs
saying (escaped bs) = singled bs

abbrev pub content_of : Field → List ℕ
content_of f = saying (form f)

-- the bytes that a field holds: its content, but in a quoted field each quote twice
abbrev pub holds : Form → List ℕ
holds (non_escaped bs) = bs
holds (escaped bs) = bs

abbrev pub Doubled : Form → Type 0
Doubled (non_escaped bs) = Unit {0}
Doubled (escaped bs) = bs ≡ twice (singled bs)

-- xs is a part of bs
abbrev pub Part : List ℕ → List ℕ → Type 0
Part bs xs = (i : ℕ) × (xs ≡ take (length xs) (drop i bs))
