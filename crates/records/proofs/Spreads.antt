-- What making a kind of a known letter answers of the spread.
use Rattle.std.proofs.Common.{◌≡◌, ℕ, Bool, true, false, cond, ℤ, None, Ok, Err, Result, refl, ap}
use Rattle.std.specs.Result.{result_or}
use Rattle.std.proofs.lemmas.Bool.{false≢true}
use Rattle.faults.specs.declared.Refusal.TheVariants.{OutOfRange, UnknownLetter}
use Rattle.faults.specs.declared.Fault.{Fault}
use Rattle.faults.specs.Faults.{check, AnswersBy}
use Rattle.kinds.specs.declared.Kind.{Kind}
use Rattle.kinds.specs.Kinds.{spread_of, HasGiven}
use Rattle.records.specs.Entries.{answer_meant}

pub spread_answered : (l : ℕ) (v : ℤ) (b t : Bool) (k : Result Kind Fault) (f : Fault) → b ≡ true
    → AnswersBy (check b UnknownLetter (check t OutOfRange None)) k (HasGiven l v) → answer_meant spread_of (result_or k (Err f)) ≡ cond t (Ok v) (Err f)
spread_answered l v false t k f h a = absurd (false≢true h)
spread_answered l v true true (Ok x) f h a = ap Ok a.spread_is
spread_answered l v true false (Ok x) f h a = absurd a
spread_answered l v true true (Err e) f h a = absurd a
spread_answered l v true false (Err e) f h a = refl
