-- Where a text is cut: inside the outer quotes, and past what ends a field.
use Rattle.std.proofs.Common.{◌≡◌, ℕ, ◌+◌, ◌<◌, ◌≤◌, Bool, List, ◌∷◌, ◌++◌, length, get_or, take, drop, Decides, Ok, Err, sym, ap, ◌∙◌, subst}
use Rattle.std.proofs.lemmas.List.{drop_more, take_more, take_all, take-append-drop}
use Rattle.text.specs.declared.machine.State.{State}
use Rattle.text.specs.declared.machine.State.TheVariants.{Quoted}
use Rattle.text.specs.declared.machine.Ending.{Ending}
use Rattle.text.specs.declared.machine.Ending.TheVariants.{Comma, Line, Text}
use Rattle.text.specs.Fronts.{Ended}
use Rattle.text.specs.Grammar.{LF}
use Rattle.text.specs.declared.machine.Effect.TheVariants.{On, Off}
use Rattle.text.specs.Machine.{SoFar, Complete, Does}
use Rattle.text.specs.Offences.{Offence, unclosed}
use Rattle.faults.specs.declared.Refusal.{Refusal}
use Rattle.faults.specs.declared.Refusal.TheVariants.{BrokenQuotes}

-- one byte of a scan: i bytes are read, the machine stands in s, and flag tells of a LF after the next
module _ (s : State) (bs : List ℕ) (i : ℕ) (flag : Bool) (h : SoFar s (take i bs)) (more : i < length bs) (told : Decides flag ((cs : List ℕ) × (drop (i + 1) bs ≡ LF ∷ cs))) where
  pub goes_on : (t : State) → Does s (get_or bs i 0) flag (Ok (On t)) → SoFar t (take (i + 1) bs)
  goes_on t does = subst (SoFar t) (sym (take_more bs i 0 more)) (does (take i bs) h)

  pub ends : (e : Ending) → Does s (get_or bs i 0) flag (Ok (Off e)) → Complete s × ((after : List ℕ) × Ended e after (drop i bs))
  ends Comma does = (does.0, (drop (i + 1) bs, drop_more bs i 0 more ∙ ap (λ b. b ∷ drop (i + 1) bs) does.1))
  ends Line does =
      let lf = told.0 does.2 in
      (does.0, (lf.0, drop_more bs i 0 more ∙ (λ k. does.1 k ∷ lf.1 k)))
  ends Text does = absurd does

  pub offends : (e : Refusal) → Does s (get_or bs i 0) flag (Err e) → Offence e bs
  offends e does =
      subst (Offence e) (ap (λ cs. take i bs ++ cs) (sym (drop_more bs i 0 more)) ∙ take-append-drop i bs)
      (does (take i bs) (drop (i + 1) bs) h (λ cs p. told.1 (cs, p)))

-- the end of the text
pub open_at_end : (s : State) (bs : List ℕ) (i : ℕ) → s ≡ Quoted → length bs ≤ i → SoFar s (take i bs) → Offence BrokenQuotes bs
open_at_end s bs i is past h =
    let held : SoFar Quoted bs = subst (SoFar Quoted) (take_all i bs past) (subst (λ t. SoFar t (take i bs)) is h) in
    unclosed held.0 held.1 held.2
