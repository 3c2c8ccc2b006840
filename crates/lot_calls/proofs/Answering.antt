-- What each check of a lot's calls says.
use Rattle.std.proofs.Common.{◌≡◌, ℕ, ◌+◌, ◌-◌, ◌<◌, ◌≤◌, Bool, true, not, ltb, List, map, length, get_or, ℤ, pos, nat_abs, Some, None, Ok, Err, Option, Result, sym, ap, ◌∙◌, subst, arith, w64, SFits}
use Rattle.std.proofs.lemmas.List.{length-map}
use Rattle.std.proofs.lemmas.Int.{ints}
use Rattle.std.proofs.lemmas.Bool.{lt-ltb, le-ltb, and_parts}
use Rattle.faults.specs.Faults.{direct, AnswersBy}
use Rattle.faults.specs.declared.Refusal.TheVariants.{OutOfRange, DuplicateItem, LotFull}
use Rattle.faults.proofs.Checks.{passed, failed, check_passed}
use Rattle.requirement.proofs.Reach.{range_out, reach_out}
use Rattle.requirement.specs.Requirements.{is_class}
use Rattle.requirement.specs.declared.requirements.Requirement.{Requirement}
use Rattle.faults.specs.declared.Fault.{Fault}
use Rattle.knowledge.specs.Knowledge.{Answers}
use Rattle.judging.specs.Verdicts.{judged, judge_refusal}
use Rattle.judging.specs.Guarantee.{JudgementHolds}
use Rattle.judging.specs.declared.answers.Judgement.{Judgement}
use Rattle.acceptance.specs.Guard.{is_expanded}
use Rattle.table.specs.Places.{Stands}
use Rattle.lot.specs.Book.{is_number, is_named, in_range, tally_refusal, room_refusal, judged_refusal, stands}
use Rattle.lot.specs.Rows.{row_of}
use Rattle.lot.specs.declared.items.Item.{Item}
use Rattle.lot.specs.declared.items.ItemFields.{ItemFields}
use Rattle.lot.specs.declared.items.Row.{Row}
use Rattle.lot_calls.specs.Lots.{JudgedBy}
use Rattle.lot.proofs.Noted.{stands_has, absent_stands}
use Rattle.lot.proofs.Shares.{NineTallied}

-- the row of a class that is in range
pub class_tallied : (items : List Item) (rows : List Row) (d : Row) (c : ℤ) → NineTallied items rows → tally_refusal c ≡ None → get_or rows (nat_abs c - 1) d ≡ row_of (nat_abs c) items
class_tallied items rows d c tallied none =
    let range = range_out (pos 1) (pos 9) c (check_passed (is_class c) OutOfRange None none) in
    let within : nat_abs c - 1 < 9 = omega (arith, ints) in
    let on : nat_abs c - 1 + 1 ≡ nat_abs c = omega (arith, ints) in
    tallied.1 (nat_abs c - 1) d within ∙ ap (λ k. row_of k items) on

-- room for a number: it does not stand, and a place is left
module _ (items : List Item) (places n : ℕ) where
  abbrev its_number : Item → ℕ
  its_number e = e.number

  abbrev Room : Unit {0} → Type 0
  Room x = Unit {0}

  abbrev stood : Bool
  stood = stands (map its_number items) n

  pub taken : Stands its_number items n → AnswersBy (room_refusal (map its_number items) places (pos n)) (Err (direct DuplicateItem)) Room
  taken has = failed Room (not stood) DuplicateItem _ (ap not (stands_has (map its_number items) n has))

  module _ (absent : Stands its_number items n → ⊥) where
    pub full : places ≤ length items → AnswersBy (room_refusal (map its_number items) places (pos n)) (Err (direct LotFull)) Room
    full h =
        passed Room (not stood) DuplicateItem _ (Err (direct LotFull)) (ap not (absent_stands (map its_number items) n absent))
        (failed Room (ltb (length (map its_number items)) places) LotFull None (le-ltb (length (map its_number items)) places (omega (arith, length-map items its_number))))

    pub free : length items < places → AnswersBy (room_refusal (map its_number items) places (pos n)) (Ok tt) Room
    free h =
        passed Room (not stood) DuplicateItem _ (Ok tt) (ap not (absent_stands (map its_number items) n absent))
        (passed Room (ltb (length (map its_number items)) places) LotFull None (Ok tt) (lt-ltb (length (map its_number items)) places (omega (arith, length-map items its_number))) tt)

-- judging by the requirement that was found
pub judged_found : (o : Option Requirement) (q : Requirement) (f : ItemFields) (k : Answers) (r : Result Judgement Fault) → o ≡ Some q
    → AnswersBy (judge_refusal q f.expanded f.reading k) r (λ j. (j ≡ judged q f.expanded f.reading k) × JudgementHolds k q f.reading j)
    → AnswersBy (judged_refusal o f k) r (JudgedBy o f k)
judged_found o q f k r found a = subst (λ (x : Option Requirement). AnswersBy (judged_refusal x f k) r (JudgedBy x f k)) (sym found) a

-- fields in range fit their words
pub record Fitting (f : ItemFields) : Type 0 where
  pub number_fits : SFits w64 f.number
  pub class_fits : SFits w64 f.class
  pub characteristic_fits : SFits w64 f.characteristic
  pub expanded_fits : SFits w64 f.expanded
  pub reading_fits : SFits w64 f.reading
  pub class_some : 1 ≤ nat_abs f.class
  pub class_few : nat_abs f.class ≤ 9

pub fitting : (f : ItemFields) → in_range f ≡ true → Fitting f
fitting f h =
    let all = and_parts (is_named f) _ h in
    let measured = and_parts (is_expanded f.expanded) _ all.1 in
    let first = and_parts (is_number f.number) _ all.0 in
    let rest = and_parts (is_class f.class) _ first.1 in
    let number = range_out (pos 1) (pos 999999999) f.number first.0 in
    let class = range_out (pos 1) (pos 9) f.class rest.0 in
    let characteristic = range_out (pos 1) (pos 20) f.characteristic rest.1 in
    let expanded = range_out (pos 0) (pos 1000000) f.expanded measured.0 in
    let reading = reach_out f.reading measured.1 in
    record {
      number_fits = omega (arith, ints, number);
      class_fits = omega (arith, ints, class);
      characteristic_fits = omega (arith, ints, characteristic);
      expanded_fits = omega (arith, ints, expanded);
      reading_fits = omega (arith, ints, reading);
      class_some = omega (arith, ints, class);
      class_few = omega (arith, ints, class);
    }
