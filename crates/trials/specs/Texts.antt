-- Texts that end in many commas.
use Rattle.std.specs.Prelude.{ℕ, ◌+◌, ◌*◌, List, [], ◌∷◌, ◌++◌, replicate}

-- three bytes are a number, the others begin a text, and so many commas, each the byte 44, end it
abbrev pub with_commas : List ℕ → List ℕ
with_commas (high ∷ middle ∷ low ∷ start) = start ++ replicate (high * 65536 + middle * 256 + low) 44
with_commas _ = []
