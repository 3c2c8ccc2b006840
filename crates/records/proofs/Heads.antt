-- The first field of a record and the number of its fields.
use Rattle.std.proofs.Common.{◌≡◌, ℕ, ◌<◌, Bool, true, false, ◌&&◌, List, [], ◌∷◌, length, get_or, ◌≢◌, Decides, sym, refl, ap, ◌∙◌, subst, arith}
use lib.ListN.{length-map}
use Rattle.std.specs.Array.{IsWholeChunk, IsFirstChunk}
use Rattle.std.proofs.lemmas.List.{take_all}
use Rattle.std.specs.Str.{bytes_eq}
use Rattle.std.proofs.lemmas.Slice.Eq.{bytes_eq-Decides}
use Rattle.std.proofs.Math.Bool.{and-true}
use Rattle.std.proofs.lemmas.Bool.{and_right, ne_eqb, eq-eqb}
use Rattle.text.specs.declared.field.Placed.{Placed}
use Rattle.fields.specs.Answers.{said}
use Rattle.records.specs.Cells.{cell, cells, contents}
use Rattle.records.specs.Entries.{is_record}
use Rattle.records.proofs.Walk.{blank}

agree : (a b : Bool) (P : Type 0) → Decides a P → Decides b P → a ≡ b
agree true b P d e = sym (e.1 (d.0 refl))
agree false true P d e = d.1 (e.0 refl)
agree false false P d e = refl

how_many : (ps : List Placed) → length (contents (cells ps)) ≡ length ps
how_many ps = length-map (cells ps) (λ c. c.words) ∙ length-map ps cell

-- where the fields are qs, as many as they should be, the word decides
pub word_decides : (ps qs : List Placed) (word : List ℕ) (count : ℕ) (b : Bool) → 0 < count → IsWholeChunk ps qs count
    → Decides b (said (get_or qs 0 blank) ≡ word) → b ≡ is_record word count (contents (cells ps))
word_decides [] qs word count b some whole d = let e = whole.long in absurd (omega (arith, e))
word_decides (p ∷ ps) qs word count b some whole d =
    let first : said (get_or qs 0 blank) ≡ said p = ap (λ l. said (get_or l 0 blank)) whole.same in
    let same = agree b (bytes_eq (said p) word) (said p ≡ word) (subst (λ w. Decides b (w ≡ word)) first d) (bytes_eq-Decides (said p) word) in
    let many = eq-eqb _ count (how_many (p ∷ ps) ∙ whole.long) in
    same ∙ sym (ap (λ t. bytes_eq (said p) word && t) many ∙ and-true (bytes_eq (said p) word))

-- the first of them are all, where they are no more
pub whole_from_first : (ps qs : List Placed) (count : ℕ) → length ps ≡ count → IsFirstChunk ps qs count → IsWholeChunk ps qs count
whole_from_first ps qs count long first = record { long = long; same = first.same ∙ take_all count ps (omega (arith, long)); each = first.each }

-- and where they are not as many
pub not_so_many : (ps : List Placed) (word : List ℕ) (count : ℕ) → length ps ≢ count → false ≡ is_record word count (contents (cells ps))
not_so_many [] word count ne = refl
not_so_many (p ∷ ps) word count ne = sym (and_right (bytes_eq (said p) word) _ (ne_eqb _ count (λ e. ne (sym (how_many (p ∷ ps)) ∙ e))))
