-- Whatever calls were made, judging refuses no note of the book.
use Rattle.std.proofs.Common.{◌≡◌, ℕ, Bool, true, false, cond, ◌&&◌, eqb, ltb, List, [], ◌∷◌, map, nat_abs, Some, None, Option, refl}
use Rattle.std.specs.List.{AllByRecursion}
use Rattle.faults.specs.declared.Refusal.{Refusal}
use Rattle.faults.proofs.Checks.{later_none}
use Rattle.knowledge.specs.Knowledge.{Answers, Rules}
use Rattle.requirement.specs.declared.requirements.Requirement.{Requirement}
use Rattle.lot.specs.Notes.{Note, judgement, Judgeable, is_pass, passing}
use Rattle.lot.specs.Book.{number_of, noted, struck, Call, enters, strikes, shows, tallies, fields_refusal, room_refusal, judged_refusal, requirement_for, enter_refusal, strike_refusal, note_if, strike_if, after, book}
use Rattle.lot.specs.declared.items.ItemFields.{ItemFields}

module _ (P : Note → Type 0) where
  all_cond : (b : Bool) (xs ys : List Note) → AllByRecursion P xs → AllByRecursion P ys → AllByRecursion P (cond b xs ys)
  all_cond true xs ys p q = p
  all_cond false xs ys p q = q

  all_noted : (n : Note) (ns : List Note) → P n → AllByRecursion P ns → AllByRecursion P (noted n ns)
  all_noted n [] p h = (p, tt)
  all_noted n (m ∷ ms) p h = all_cond (ltb (number_of n) (number_of m)) (n ∷ m ∷ ms) (m ∷ noted n ms) (p, h) (h.0, all_noted n ms p h.1)

  all_struck : (k : ℕ) (ns : List Note) → AllByRecursion P ns → AllByRecursion P (struck k ns)
  all_struck k [] h = tt
  all_struck k (m ∷ ms) h = all_cond (eqb (number_of m) k) ms (m ∷ struck k ms) h.1 (h.0, all_struck k ms h.1)

  pub all_passing : (c : ℕ) (ns : List Note) → AllByRecursion P ns → AllByRecursion P (passing c ns)
  all_passing c [] h = tt
  all_passing c (n ∷ ns) h =
      all_cond (eqb (nat_abs n.fields.class) c && is_pass (judgement n).verdict) (n ∷ passing c ns) (passing c ns) (h.0, all_passing c ns h.1) (all_passing c ns h.1)

  all_strike_if : (o : Option Refusal) (k : ℕ) (ns : List Note) → AllByRecursion P ns → AllByRecursion P (strike_if o k ns)
  all_strike_if (Some e) k ns h = h
  all_strike_if None k ns h = all_struck k ns h

-- the note of an entry that is not refused can be judged
module _ (f : ItemFields) (k : Answers) (r : Rules k) where
  judgeable_noted : (o : Option Refusal) (q : Option Requirement) (ns : List Note) → (o ≡ None → judged_refusal q f k ≡ None) → AllByRecursion Judgeable ns → AllByRecursion Judgeable (note_if o q f k r ns)
  judgeable_noted (Some e) q ns passes h = h
  judgeable_noted None None ns passes h = h
  judgeable_noted None (Some q) ns passes h = all_noted Judgeable (record { fields = f; requirement = q; knowledge = k; rules = r }) ns (passes refl) h

judgeable_after : (places : ℕ) (c : Call) (ns : List Note) → AllByRecursion Judgeable ns → AllByRecursion Judgeable (after places c ns)
judgeable_after places (enters sheet f k r) ns h =
    judgeable_noted f k r (enter_refusal (map number_of ns) places sheet f k) (requirement_for sheet f) ns
    (λ none. later_none (room_refusal (map number_of ns) places f.number) (judged_refusal (requirement_for sheet f) f k) (later_none (fields_refusal f) _ none)) h
judgeable_after places (strikes n) ns h = all_strike_if Judgeable (strike_refusal (map number_of ns) n) (nat_abs n) ns h
judgeable_after places (shows place) ns h = h
judgeable_after places (tallies c) ns h = h

pub judgeable : (places : ℕ) (calls : List Call) → AllByRecursion Judgeable (book places calls)
judgeable places [] = tt
judgeable places (c ∷ earlier) = judgeable_after places c (book places earlier) (judgeable places earlier)
