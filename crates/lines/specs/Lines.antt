-- Output lines: five fields separated by commas, and CR LF at the end. Everything is bytes.
use Rattle.std.specs.Prelude.{ℕ, List, [], ◌∷◌, ◌++◌, codes, decimal}
use Rattle.std.specs.List.{flat_map}
use Rattle.faults.specs.Numbers.{number, layer}
use Rattle.judging.specs.Words.{word_for}
use Rattle.lines.specs.declared.cells.Cell.{Cell}
use Rattle.lines.specs.declared.cells.Cell.TheVariants.{Word, Number}
use Rattle.lines.specs.declared.forms.Line.{Line}
use Rattle.lines.specs.declared.forms.Line.TheVariants.{Header, Item, Refused, Class}

-- the bytes that separate
abbrev pub COMMA : ℕ
COMMA = 44

abbrev pub CR : ℕ
CR = 13

abbrev pub LF : ℕ
LF = 10

-- a word is written as it is, a number in its shortest decimal form
abbrev pub written : Cell → List ℕ
written (Word w) = w.now
written (Number n) = decimal n

-- fields with a comma before each
abbrev pub following : List (List ℕ) → List ℕ
following fs = flat_map (λ f. COMMA ∷ f) fs

-- fields with commas between them
abbrev pub separated : List (List ℕ) → List ℕ
separated [] = []
separated (f ∷ fs) = f ++ following fs

-- fields as a line, which CR LF ends
abbrev pub line_of : List (List ℕ) → List ℕ
line_of fs = separated fs ++ CR ∷ LF ∷ []

-- the five fields of a line
abbrev pub fields_of : Line → List (List ℕ)
fields_of Header = codes "line" ∷ codes "key" ∷ codes "outcome" ∷ codes "floor" ∷ codes "ceiling" ∷ []
fields_of (Item n j) = codes "item" ∷ decimal n ∷ word_for j.verdict ∷ decimal j.bracket.floor ∷ decimal j.bracket.ceiling ∷ []
fields_of (Refused f) = codes "refused" ∷ decimal f.«record» ∷ decimal (number f.refusal) ∷ decimal (layer f.refusal) ∷ decimal f.field ∷ []
fields_of (Class c w) = codes "class" ∷ decimal c ∷ decimal w.passes ∷ decimal w.lesser ∷ decimal w.greater ∷ []

-- a line as it is written
abbrev pub spelled : Line → List ℕ
spelled l = line_of (fields_of l)
