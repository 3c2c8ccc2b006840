-- What a sheet holds, and what adding to it does.
use Rattle.std.specs.Prelude.{◌≡◌, ℕ, ◌≤◌, cond, not, ◌&&◌, List, [], ◌∷◌, length, drop, is_some, Some, None, Ok, Err, Option, Result, ◌==◌, nat_lt}
use Rattle.std.specs.List.{insert}
use Rattle.faults.specs.declared.Fault.{Fault}
use Rattle.faults.specs.declared.Refusal.{Refusal}
use Rattle.faults.specs.declared.Refusal.TheVariants.{DuplicateRequirement, SheetFull}
use Rattle.faults.specs.Faults.{check, AnswersBy}
use Rattle.requirement.specs.declared.requirements.Requirement.{Requirement}
use Rattle.table.specs.declared.Table.{Table}
use Rattle.table.specs.declared.Refused.{Refused}
use Rattle.table.specs.declared.Refused.TheVariants.{Present, Full}
use Rattle.table.specs.Tables.{standing, beyond, capacity}

-- the requirement of a class and a characteristic among those of a sheet
abbrev pub lookup : List Requirement → ℕ → ℕ → Option Requirement
lookup [] class characteristic = None
lookup (q ∷ qs) class characteristic = cond (q.class == class && q.characteristic == characteristic) (Some q) (lookup qs class characteristic)

-- the sheet's refusal for the table's
abbrev pub refusal_of : Refused → Refusal
refusal_of Present = DuplicateRequirement
refusal_of Full = SheetFull

-- what adding a requirement is refused for, in this order: its key stands, every place is taken
abbrev pub added_refusal : List Requirement → ℕ → Requirement → Option Refusal
added_refusal qs places q = check (not (is_some (lookup qs q.class q.characteristic))) DuplicateRequirement (check (nat_lt (length qs) places) SheetFull None)

-- a sheet's table keeps requirements under class and characteristic; the rest of its type is how a requirement gives its key and how keys compare
module _ {entry ord eq partial : _} where
  -- a requirement that was added stands at a place i, in the order that the sheet keeps, and uses up the first place beyond
  pub record StandsAdded (t : Table Requirement (ℕ × ℕ) entry ord eq partial) (q : Requirement) (t' : Table Requirement (ℕ × ℕ) entry ord eq partial) : Type 0 where
    pub place : ℕ
    pub within : place ≤ length (standing t)
    pub standing_is : standing t' ≡ insert (standing t) place q
    pub beyond_is : beyond t' ≡ drop 1 (beyond t)

  -- what adding does to the table t: the requirement stands, or the call is refused and nothing has changed
  abbrev pub ChangedBy : Table Requirement (ℕ × ℕ) entry ord eq partial → Requirement → Result (Unit {0}) Fault → Table Requirement (ℕ × ℕ) entry ord eq partial → Type 0
  ChangedBy t q (Ok x) t' = StandsAdded t q t'
  ChangedBy t q (Err f) t' = t' ≡ t

  pub record Added (t : Table Requirement (ℕ × ℕ) entry ord eq partial) (q : Requirement) (r : Result (Unit {0}) Fault) (t' : Table Requirement (ℕ × ℕ) entry ord eq partial) : Type 0 where
    pub answer : AnswersBy (added_refusal (standing t) (capacity t) q) r (λ x. Unit {0})
    pub change : ChangedBy t q r t'
    pub room : capacity t' ≡ capacity t
