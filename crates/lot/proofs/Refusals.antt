-- What the refusals of a lot's calls say of their arguments.
use Rattle.std.proofs.Common.{◌≡◌, ℕ, ℤ, Bool, true, false, List, None, Option, refl, sym, true≢false}
use Rattle.std.specs.Prelude.{unsigned_abs}
use Rattle.std.proofs.lemmas.Bool.{and_from}
use Rattle.requirement.specs.Limits.{in_reach}
use Rattle.requirement.specs.Requirements.{is_class, is_characteristic}
use Rattle.acceptance.specs.Guard.{is_expanded}
use Rattle.faults.specs.Faults.{check, first_of}
use Rattle.faults.specs.declared.Refusal.{Refusal}
use Rattle.faults.specs.declared.Refusal.TheVariants.{OutOfRange, NoItem}
use Rattle.faults.proofs.Checks.{check_passed}
use Rattle.lot.specs.Book.{is_number, is_named, in_range, fields_refusal, number_refusal, strike_refusal, stands}
use Rattle.lot.specs.declared.items.ItemFields.{ItemFields}

-- a check and those after it are an earlier refusal and a later one
in_turn : (b : Bool) (e : Refusal) (later : Option Refusal) → check b e later ≡ first_of (check b e None) later
in_turn true e later = refl
in_turn false e later = refl

-- a strike is refused for its number, and then for what stands
pub struck_in_turn : (numbers : List ℕ) (n : ℤ) → strike_refusal numbers n ≡ first_of (number_refusal n) (check (stands numbers (unsigned_abs n)) NoItem None)
struck_in_turn numbers n = in_turn (is_number n) OutOfRange (check (stands numbers (unsigned_abs n)) NoItem None)

-- where a check and those after it do not refuse, those after it do not
pub check_later : (b : Bool) (e : Refusal) (later : Option Refusal) → check b e later ≡ None → later ≡ None
check_later true e later h = h
check_later false e later h = absurd (true≢false (sym (check_passed false e later h)))

-- fields that are not refused are in range
pub in_range_fields : (f : ItemFields) → fields_refusal f ≡ None → in_range f ≡ true
in_range_fields f none =
    let after-number = check_later (is_number f.number) OutOfRange _ none in
    let after-class = check_later (is_class f.class) OutOfRange _ after-number in
    let after-characteristic = check_later (is_characteristic f.characteristic) OutOfRange _ after-class in
    let after-expanded = check_later (is_expanded f.expanded) OutOfRange _ after-characteristic in
    let named = and_from (is_number f.number) _ (check_passed (is_number f.number) OutOfRange _ none)
    (and_from (is_class f.class) (is_characteristic f.characteristic) (check_passed (is_class f.class) OutOfRange _ after-number) (check_passed (is_characteristic f.characteristic) OutOfRange _ after-class)) in
    and_from (is_named f) _ named
    (and_from (is_expanded f.expanded) (in_reach f.reading) (check_passed (is_expanded f.expanded) OutOfRange _ after-characteristic) (check_passed (in_reach f.reading) OutOfRange None after-expanded))
