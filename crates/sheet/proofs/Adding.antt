-- What the table's answer to an insertion says of the sheet's.
use Rattle.std.proofs.Common.{◌≡◌, ℕ, not, ltb, length, is_some, None, Ok, Err, Option, Result, MatchResult, ap}
use Rattle.std.proofs.lemmas.Bool.{lt-ltb, le-ltb}
use Rattle.faults.specs.declared.Refusal.{Refusal}
use Rattle.faults.specs.declared.Refusal.TheVariants.{DuplicateRequirement, SheetFull}
use Rattle.faults.specs.declared.Fault.{Fault}
use Rattle.faults.specs.Faults.{direct, check}
use Rattle.faults.proofs.Checks.{passed, failed}
use Rattle.requirement.specs.Keys.{key_of}
use Rattle.requirement.specs.declared.requirements.Requirement.{Requirement}
use Rattle.table.specs.declared.Table.{Table}
use Rattle.table.specs.declared.Refused.{Refused}
use Rattle.table.specs.declared.Refused.TheVariants.{Present, Full}
use Rattle.table.specs.Tables.{standing, capacity}
use Rattle.table.specs.Changes.{Allowed, Insertion}
use Rattle.sheet.specs.Sheets.{lookup, refusal_of, Added}
use Rattle.sheet.proofs.Lookups.{lookup_picks, stands_some, absent_none}

module _ {entry ord eq partial : _} (t t' : Table Requirement (ℕ × ℕ) entry ord eq partial) (q : Requirement) (keeps : capacity t' ≡ capacity t) where
  abbrev found : Option Requirement
  found = lookup (standing t) q.class q.characteristic

  abbrev last : Option Refusal
  last = check (ltb (length (standing t)) (capacity t)) SheetFull None

  -- what the sheet answers, by what the table answers
  abbrev Says : Result ℕ Refused → Result (Unit {0}) Fault → Type 0
  Says r s = MatchResult r (λ _. s ≡ Ok tt) (λ why. s ≡ Err (direct (refusal_of why)))

  pub added : (r : Result ℕ Refused) (s : Result (Unit {0}) Fault) → Insertion t q r t' → Allowed key_of t (key_of q) r → Says r s → Added t q s t'
  added (Ok i) s change allowed is =
      rw is record {
        answer = passed (λ x. Unit {0}) (not (is_some found)) DuplicateRequirement last (Ok tt)
            (ap not (absent_none (standing t) (key_of q) found (lookup_picks (standing t) q.class q.characteristic) allowed.0))
            (passed (λ x. Unit {0}) (ltb (length (standing t)) (capacity t)) SheetFull None (Ok tt) (lt-ltb (length (standing t)) (capacity t) allowed.1) tt);
        change = record { place = i; within = change.0; standing_is = change.1; beyond_is = change.2 };
        room = keeps;
      }
  added (Err Present) s change allowed is =
      rw is record {
        answer = failed (λ (x : Unit {0}). Unit {0}) (not (is_some found)) DuplicateRequirement last
            (ap not (stands_some (standing t) (key_of q) found (lookup_picks (standing t) q.class q.characteristic) allowed));
        change = change;
        room = keeps;
      }
  added (Err Full) s change allowed is =
      rw is record {
        answer = passed (λ (x : Unit {0}). Unit {0}) (not (is_some found)) DuplicateRequirement last (Err (direct SheetFull))
            (ap not (absent_none (standing t) (key_of q) found (lookup_picks (standing t) q.class q.characteristic) allowed.0))
            (failed (λ (x : Unit {0}). Unit {0}) (ltb (length (standing t)) (capacity t)) SheetFull None (le-ltb (length (standing t)) (capacity t) allowed.1));
        change = change;
        room = keeps;
      }
