-- The fields of a record as the list of ten places shows them: a record that is longer is malformed in either view.
use Rattle.std.proofs.Common.{◌≡◌, ℕ, ◌<◌, ◌≤◌, min, false, eqb, List, [], ◌∷◌, map, length, take, drop, Some, Err, sym, ap, ◌∙◌, ⊎_elim, arith}
use Rattle.std.specs.Str.{bytes_eq}
use Rattle.std.proofs.lemmas.List.{length-map, length-take, take_all, take-take, take-append-le}
use Rattle.std.proofs.lemmas.Bool.{cases_lt, and_right, ne_eqb, cond-false}
use Rattle.text.specs.declared.field.Placed.{Placed}
use Rattle.text.specs.Fronts.{Numbered, laid}
use Rattle.fields.specs.Answers.{said}
use Rattle.records.specs.Cells.{Cell, cell, cells, contents, outcome}
use Rattle.records.specs.Entries.{is_record, is_requirement, is_item, word_REQ, word_ITEM, malformed, requirement_fault, item_fault, meaning_of, answer_of, meaning}
use Rattle.records.proofs.Numbering.{numbered_meaning}

-- a record of too many fields is none
not_record : (word : List ℕ) (count : ℕ) (ws : List (List ℕ)) → count < length ws → is_record word count ws ≡ false
not_record word count [] many = absurd (omega arith)
not_record word count (w ∷ ws) many = and_right (bytes_eq w word) (eqb (length (w ∷ ws)) count) (ne_eqb (length (w ∷ ws)) count (λ (e : length (w ∷ ws) ≡ count). omega arith))

long_malformed : (n : ℕ) (cs : List Cell) → 9 < length cs → answer_of n cs ≡ Err (malformed n)
long_malformed n cs many =
    let count = length-map cs (λ c. c.words) in
    let no-requirement = not_record word_REQ 9 (contents cs) (omega arith) in
    let no_item = not_record word_ITEM 8 (contents cs) (omega arith) in
    ap (λ o. outcome o (meaning_of (contents cs)))
    (cond-false (is_requirement (contents cs)) (requirement_fault cs) _ no-requirement ∙ cond-false (is_item (contents cs)) (item_fault cs) (Some (malformed n)) no_item)

-- what the list shows of a record: its fields, or ten of more
shown : (ps old : List Placed) → length old ≡ 10 → take (min (length ps) 10) (laid ps old) ≡ take 10 ps
shown ps old ten =
    let few = length-take (length old) ps in
    let front = take-append-le (min (length ps) 10) (take (length old) ps) (drop (length ps) old) (omega arith) in
    let inner = take-take (min (length ps) 10) (length old) ps (omega arith) in
    front ∙ inner ∙ ⊎_elim (λ (short : length ps < 10). take_all (min (length ps) 10) ps (omega arith) ∙ sym (take_all 10 ps (omega arith))) (λ (long : 10 ≤ length ps). let ten-of : min (length ps) 10 ≡ 10 = omega arith in ap (λ k. take k ps) ten-of) (cases_lt (length ps) 10)

pub meant_by_list : (n : ℕ) (ps old : List Placed) → length old ≡ 10 → Numbered n 1 ps → answer_of n (cells (take (min (length ps) 10) (laid ps old))) ≡ meaning n (map said ps)
meant_by_list n ps old ten numbered =
    ap (λ qs. answer_of n (cells qs)) (shown ps old ten)
    ∙ ⊎_elim
    (λ (short : length ps < 10). ap (λ qs. answer_of n (cells qs)) (take_all 10 ps (omega arith)))
    (λ (long : 10 ≤ length ps).
    let front : 9 < length (cells (take 10 ps)) = omega (arith, length-map (take 10 ps) (λ (p : Placed). cell p), length-take 10 ps) in
    let whole : 9 < length (cells ps) = omega (arith, length-map ps (λ (p : Placed). cell p)) in
    long_malformed n (cells (take 10 ps)) front ∙ sym (long_malformed n (cells ps) whole))
    (cases_lt (length ps) 10)
    ∙ numbered_meaning n ps numbered
