-- What a turn of a part of the list leaves of the whole: xs is the list, of which the first n entries stand.
use Rattle.std.proofs.Common.{◌≡◌, ℕ, suc, ◌+◌, ◌-◌, ◌<◌, ◌≤◌, List, [], ◌∷◌, ◌++◌, length, get_or, set, take, drop, Some, Err, Ordering, sym, ap, ◌∙◌, append_assoc, add-one, arith}
use borrow.Rule.Slice.PartMut.{mid_of, put_mid}
use Rattle.std.specs.List.{slice_get, insert, remove}
use Rattle.std.proofs.lemmas.List.{length-take, length-drop, length-append, length-set, take-append-drop, take_at, drop_at, take-take, take-set-le, take_more_set, drop-set-lt, drop-append-le, drop-drop, drop_more, get_or-take}
use Rattle.std.proofs.lemmas.List.Edits.{length-insert, length-remove}
use Rattle.std.proofs.lemmas.Option.{slice_get-get_or}
use Rattle.std.proofs.lemmas.Slice.{between_is, take-put_mid, drop-put_mid}
use Rattle.table.specs.Keys.{Ordered}
use Rattle.table.specs.Places.{Found}
use Rattle.table.proofs.Ascents.{ascending_inserted, ascending_removed}

-- after an entry e came in at i the list is xs'
pub record Opened {E : Type 0} (xs : List E) (n i : ℕ) (e : E) (xs' : List E) : Type 0 where
  pub front : take (n + 1) xs' ≡ insert (take n xs) i e
  pub rest : drop (n + 1) xs' ≡ drop 1 (drop n xs)
  pub size : length xs' ≡ length xs

-- after the entry e at i went out
pub record Closed {E : Type 0} (xs : List E) (n i : ℕ) (e : E) (xs' : List E) : Type 0 where
  pub stood : slice_get (take n xs) i ≡ Some e
  pub front : take (n - 1) xs' ≡ remove (take n xs) i
  pub rest : drop (n - 1) xs' ≡ e ∷ drop n xs
  pub size : length xs' ≡ length xs

-- a list is as long as its two parts
as_long : {E : Type 0} (xs ys zs : List E) (n : ℕ) → take n xs ≡ ys → drop n xs ≡ zs → length xs ≡ length ys + length zs
as_long xs ys zs n front rest = ap length (sym (take-append-drop n xs) ∙ ap (λ l. l ++ drop n xs) front ∙ ap (λ l. ys ++ l) rest) ∙ length-append ys zs

module _ {E : Type 0} (xs : List E) (n i : ℕ) (ys : List E) where
  -- an entry e that is written behind those that stand, and turned to i
  module _ (e : E) (at : i ≤ length (take n xs)) (room : n < length xs) where
    abbrev written : List E
    written = mid_of i (n + 1 - i) (set xs n e)

    written_is : written ≡ drop i (take n xs) ++ e ∷ []
    written_is = between_is (set xs n e) i (n + 1) ∙ ap (drop i) (take_more_set xs n e room) ∙ drop-append-le i (take n xs) (e ∷ []) at

    others : length (drop i (take n xs)) ≡ length written - 1
    others = omega (arith, ap length written_is, length-append (drop i (take n xs)) (e ∷ []))

    module _ (turned : ys ≡ drop (length written - 1) written ++ take (length written - 1) written) where
      turned_is : ys ≡ e ∷ drop i (take n xs)
      turned_is =
          turned
          ∙ ap (λ l. drop (length written - 1) l ++ take (length written - 1) l) written_is
          ∙ ap (λ l. l ++ take (length written - 1) (drop i (take n xs) ++ e ∷ [])) (drop_at (drop i (take n xs)) (e ∷ []) (length written - 1) others)
          ∙ ap (λ l. e ∷ l) (take_at (drop i (take n xs)) (e ∷ []) (length written - 1) others)

      pub opened : Opened xs n i e (put_mid i (n + 1 - i) (set xs n e) ys)
      opened =
          let long = length-set xs n e in
          let before : i ≤ n = omega (arith, at, length-take n xs) in
          let part : length ys ≡ n + 1 - i = omega (arith, ap length turned_is, length-drop i (take n xs), length-take n xs, at) in
          let front =
          take-put_mid i (n + 1 - i) (set xs n e) ys (n + 1) (omega (arith, part)) (omega arith)
          ∙ ap (λ l. l ++ ys) (take-set-le i xs n e before ∙ sym (take-take i n xs before))
          ∙ ap (λ l. take i (take n xs) ++ l) turned_is in
          let rest =
          drop-put_mid i (n + 1 - i) (set xs n e) ys (n + 1) (omega arith) (omega arith) part
          ∙ drop-set-lt (n + 1) xs n e (omega arith)
          ∙ sym (drop-drop 1 n xs) in
          record {
            front = front;
            rest = rest;
            size = omega (arith, as_long _ _ _ (n + 1) front rest, length-insert (take n xs) i e at, length-take n xs, length-drop 1 (drop n xs), length-drop n xs);
          }

  -- the entry e at i, turned to the end of those that stand
  module _ (e : E) (at : i < length (take n xs)) (within : n ≤ length xs) (is : e ≡ get_or xs i e) (turned : ys ≡ drop 1 (mid_of i (n - i) xs) ++ take 1 (mid_of i (n - i) xs)) where
    before : i < n
    before = omega (arith, at, length-take n xs)

    read : get_or (take n xs) i e ≡ e
    read = get_or-take n xs i e before ∙ sym is

    part_is : mid_of i (n - i) xs ≡ e ∷ drop (i + 1) (take n xs)
    part_is = between_is xs i n ∙ drop_more (take n xs) i e at ∙ ap (λ y. y ∷ drop (i + 1) (take n xs)) read

    whole : put_mid i (n - i) xs ys ≡ remove (take n xs) i ++ e ∷ drop n xs
    whole =
        let end : drop (n - i) (drop i xs) ≡ drop n xs = drop-drop (n - i) i xs ∙ ap (λ (k : ℕ). drop k xs) (let sum : i + (n - i) ≡ n = omega (arith, before) in sum) in
        let out : ys ≡ drop (i + 1) (take n xs) ++ e ∷ [] = turned ∙ ap (λ l. drop 1 l ++ take 1 l) part_is in
        let front : take i xs ≡ take i (take n xs) = sym (take-take i n xs (omega (arith, before))) in
        let next : drop (i + 1) (take n xs) ≡ drop (suc i) (take n xs) = ap (λ (k : ℕ). drop k (take n xs)) (add-one i) in
        simp (out, end, append_assoc, front, next)

    pub closed : Closed xs n i e (put_mid i (n - i) xs ys)
    closed =
        let fewer : length (remove (take n xs) i) ≡ n - 1 = omega (arith, length-remove (take n xs) i at, length-take n xs) in
        let front = ap (take (n - 1)) whole ∙ take_at (remove (take n xs) i) (e ∷ drop n xs) (n - 1) fewer in
        let rest = ap (drop (n - 1)) whole ∙ drop_at (remove (take n xs) i) (e ∷ drop n xs) (n - 1) fewer in
        record {
          stood = slice_get-get_or (take n xs) i e at ∙ ap Some read;
          front = front;
          rest = rest;
          size = omega (arith, as_long _ _ _ (n - 1) front rest, fewer, length-drop n xs, before);
        }

-- the list stays in order
module _ {E K : Type 0} (key : E → K) (compare : K → K → Ordering) (limit : ℕ) (xs : List E) (n i : ℕ) (e : E) (xs' : List E) (ordered : Ordered key compare limit n xs) where
  pub opened_ordered : Opened xs n i e xs' → n < length xs → n < limit → Found key compare (take n xs) (key e) (Err i) → Ordered key compare limit (n + 1) xs'
  opened_ordered after room free found = (
    omega (arith, ap length after.front, length-insert (take n xs) i e found.0, length-take n xs, after.size, room, free),
    rw after.front (ascending_inserted key compare (take n xs) i e found.0 ordered.1 found.1.0 found.1.1),
  )

  pub closed_ordered : Closed xs n i e xs' → i < length (take n xs) → Ordered key compare limit (n - 1) xs'
  closed_ordered after at = (
    omega (arith, ap length after.front, length-remove (take n xs) i at, after.size, ordered.0),
    rw after.front (ascending_removed key compare (take n xs) i at ordered.1),
  )
