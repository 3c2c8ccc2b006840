-- What the machine's state says of the bytes of a field that it has read, and what a step does to it.
use Rattle.std.specs.Prelude.{◌≡◌, ℕ, ◌<◌, Bool, true, List, [], ◌∷◌, ◌++◌, length, Ok, Err, Result}
use Rattle.std.specs.List.{AllByRecursion}
use Rattle.faults.specs.declared.Refusal.{Refusal}
use Rattle.text.specs.declared.machine.State.{State}
use Rattle.text.specs.declared.machine.State.TheVariants.{Start, Bare, Quoted, AfterQuote}
use Rattle.text.specs.declared.machine.Ending.TheVariants.{Comma, Line, Text}
use Rattle.text.specs.declared.machine.Effect.{Effect}
use Rattle.text.specs.declared.machine.Effect.TheVariants.{On, Off}
use Rattle.text.specs.Grammar.{COMMA, CR, LF, DQUOTE, TEXTDATA, Inside}
use Rattle.text.specs.Offences.{Offence}

-- nothing yet; a bare field; an open quoted field; a quoted field that may be complete
abbrev pub SoFar : State → List ℕ → Type 0
SoFar Start bs = bs ≡ []
SoFar Bare bs = (0 < length bs) × AllByRecursion TEXTDATA bs
SoFar Quoted bs = (qs : List ℕ) × (bs ≡ DQUOTE ∷ qs) × Inside qs
SoFar AfterQuote bs = (qs : List ℕ) × (bs ≡ DQUOTE ∷ qs ++ DQUOTE ∷ []) × Inside qs

-- the field may end here: no quote is open
abbrev pub Complete : State → Type 0
Complete Start = Unit {0}
Complete Bare = Unit {0}
Complete Quoted = ⊥
Complete AfterQuote = Unit {0}

-- what a byte does: it goes on with the field, ends it, or stands wrong; flag tells whether a LF follows it
abbrev pub Does : State → ℕ → Bool → Result Effect Refusal → Type 0
Does s b flag (Ok (On t)) = (bs : List ℕ) → SoFar s bs → SoFar t (bs ++ b ∷ [])
Does s b flag (Ok (Off Comma)) = Complete s × (b ≡ COMMA)
Does s b flag (Ok (Off Line)) = Complete s × (b ≡ CR) × (flag ≡ true)
Does s b flag (Ok (Off Text)) = ⊥
Does s b flag (Err e) = (bs more : List ℕ) → SoFar s bs → ((cs : List ℕ) → more ≡ LF ∷ cs → flag ≡ true) → Offence e (bs ++ b ∷ more)
