-- A lot's entries and its book: an entry put in, or taken out, where the numbers ascend is a note added, or struck.
use Rattle.std.proofs.Common.{◌≡◌, ℕ, zero, suc, ◌<◌, ◌≤◌, true, false, eqb, ltb, List, [], ◌∷◌, map, length, get_or, Some, sym, refl, ap, ◌∙◌, ⊎_elim, arith}
use Rattle.std.specs.List.{slice_get, insert, remove, ContainsAt as Has}
use Rattle.std.specs.Ordering.{nat_cmp}
use Rattle.std.proofs.lemmas.Bool.{true≢false, lt-ltb, le-ltb, eq-eqb, ne_eqb, eqb-true, cases_Bool, cond-true, cond-false, or_left, or_right, or_cases}
use Rattle.std.proofs.lemmas.List.{length-map, get_or-map}
use Rattle.std.proofs.lemmas.List.Edits.{length-insert, get_or-insert_at}
use Rattle.table.specs.Keys.{Ascending}
use Rattle.std.proofs.lemmas.Map.Keys.{below_from_sorted, sorted_tail}
use Rattle.std.proofs.lemmas.Option.{slice_get_within, get_or_from_slice_get}
use Rattle.lot.specs.Notes.{Note, stored}
use Rattle.lot.specs.Book.{number_of, noted, struck, stands}
use Rattle.lot.specs.declared.items.Item.{Item}

-- entries whose numbers ascend
abbrev pub Rising : List Item → Type 0
Rising items = Ascending (λ e. e.number) nat_cmp items

-- after the first entry the numbers go on rising
tail_rises : (x : Item) (xs : List Item) → Rising (x ∷ xs) → Rising xs
tail_rises x xs up = sorted_tail nat_cmp x.number (map (λ e. e.number) xs) up

-- the first entry's number is less than that of any later entry
first_less : (x : Item) (xs : List Item) (j : ℕ) (d : Item) → Rising (x ∷ xs) → j < length xs → x.number < (get_or xs j d).number
first_less x xs j d up within =
    let size = length-map xs (λ e. e.number) in
    let less = below_from_sorted (map (λ e. e.number) (x ∷ xs)) 0 (suc j) d.number up (omega arith) (omega arith) in
    simp (get_or-map (λ (e : Item). e.number) xs j d d.number within) at less

-- an entry put in so that the numbers rise stands where the book has its note
pub noted_at : (ns : List Note) (n : Note) (i : ℕ) → i ≤ length ns → Rising (insert (map stored ns) i (stored n)) → insert (map stored ns) i (stored n) ≡ map stored (noted n ns)
noted_at [] n zero within up = refl
noted_at [] n (suc i) within up = absurd (omega arith)
noted_at (m ∷ ms) n zero within up =
    let less : number_of n < number_of m = first_less (stored n) (map stored (m ∷ ms)) 0 (stored n) up (omega arith) in
    sym (ap (map stored) (cond-true (ltb (number_of n) (number_of m)) (n ∷ m ∷ ms) (m ∷ noted n ms) (lt-ltb (number_of n) (number_of m) less)))
noted_at (m ∷ ms) n (suc i) within up =
    let size = length-map ms stored in
    let long = length-insert (map stored ms) i (stored n) (omega arith) in
    let here = ap (λ (e : Item). e.number) (get_or-insert_at (map stored ms) i (stored n) (stored n) (omega arith)) in
    let less : number_of m < (get_or (insert (map stored ms) i (stored n)) i (stored n)).number = first_less (stored m) (insert (map stored ms) i (stored n)) i (stored n) up (omega arith) in
    let rest = noted_at ms n i (omega arith) (tail_rises (stored m) (insert (map stored ms) i (stored n)) up) in
    ap (λ es. stored m ∷ es) rest
    ∙ sym (ap (map stored) (cond-false (ltb (number_of n) (number_of m)) (n ∷ m ∷ ms) (m ∷ noted n ms) (le-ltb (number_of n) (number_of m) (omega arith))))

-- the entry of a number, taken out, is the number's note struck
pub struck_at : (ns : List Note) (i : ℕ) (e : Item) → slice_get (map stored ns) i ≡ Some e → Rising (map stored ns) → remove (map stored ns) i ≡ map stored (struck e.number ns)
struck_at [] i e at up = absurd (omega (arith, slice_get_within [] i e at))
struck_at (m ∷ ms) zero e at up =
    let here : number_of m ≡ e.number = ap (λ (x : Item). x.number) (get_or_from_slice_get (map stored (m ∷ ms)) zero e e at) in
    sym (ap (map stored) (cond-true (eqb (number_of m) e.number) ms (m ∷ struck e.number ms) (eq-eqb (number_of m) e.number here)))
struck_at (m ∷ ms) (suc i) e at up =
    let less = first_less (stored m) (map stored ms) i e up (slice_get_within (map stored ms) i e at) in
    let same = ap (λ (x : Item). x.number) (get_or_from_slice_get (map stored ms) i e e at) in
    ap (λ es. stored m ∷ es) (struck_at ms i e at (tail_rises (stored m) (map stored ms) up))
    ∙ sym (ap (map stored) (cond-false (eqb (number_of m) e.number) ms (m ∷ struck e.number ms) (ne_eqb (number_of m) e.number (λ (q : number_of m ≡ e.number). omega arith))))

-- the numbers of the entries are those of the notes
pub numbers_stored : (ns : List Note) → map (λ e. e.number) (map stored ns) ≡ map number_of ns
numbers_stored [] = refl
numbers_stored (n ∷ ns) = ap (λ ms. number_of n ∷ ms) (numbers_stored ns)

-- whether a number stands, by the places of a list
pub stands_has : (ms : List ℕ) (k : ℕ) → Has ms k → stands ms k ≡ true
stands_has [] k has = absurd (omega (arith, has.1))
stands_has (m ∷ ms) k (zero, within, at) = or_left (eqb m k) (stands ms k) (eq-eqb m k (at k))
stands_has (m ∷ ms) k (suc i, within, at) = or_right (eqb m k) (stands ms k) (stands_has ms k (i, omega arith, at))

has_later : (m : ℕ) (ms : List ℕ) (k : ℕ) → Has ms k → Has (m ∷ ms) k
has_later m ms k has = (suc has.0, omega (arith, has.1), has.2)

pub has_stands : (ms : List ℕ) (k : ℕ) → stands ms k ≡ true → Has ms k
has_stands [] k e = absurd (true≢false (sym e))
has_stands (m ∷ ms) k e =
    ⊎_elim (λ here. (0, omega arith, λ d. eqb-true m k here)) (λ later. has_later m ms k (has_stands ms k later)) (or_cases (eqb m k) (stands ms k) e)

pub absent_stands : (ms : List ℕ) (k : ℕ) → (Has ms k → ⊥) → stands ms k ≡ false
absent_stands ms k absent = ⊎_elim (λ yes. absurd (absent (has_stands ms k yes))) (λ no. no) (cases_Bool (stands ms k))
