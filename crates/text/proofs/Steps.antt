-- What each step of the machine does to the bytes read so far.
use Rattle.std.proofs.Common.{◌≡◌, ℕ, ◌<◌, Bool, true, false, List, [], ◌∷◌, ◌++◌, length, sym, refl, ap, ◌∙◌, subst, append_assoc, arith}
use Rattle.std.specs.List.{AllByRecursion}
use Rattle.faults.specs.declared.Refusal.TheVariants.{BrokenQuotes, StrayByte}
use Rattle.text.specs.declared.machine.State.{State}
use Rattle.text.specs.declared.machine.State.TheVariants.{Start, Bare, Quoted, AfterQuote}
use Rattle.text.specs.Grammar.{COMMA, CR, LF, DQUOTE, TEXTDATA, Inside, nothing, other, doubled}
use Rattle.text.specs.Offences.{Follows, a_comma, a_line_end, Unquoted, Stray, quote, lf, cr, Offence, run_on, stray}
use Rattle.text.specs.Machine.{SoFar}

inside_other : {qs : List ℕ} (b : ℕ) → (b ≡ DQUOTE → ⊥) → Inside qs → Inside (qs ++ b ∷ [])
inside_other b n nothing = other n nothing
inside_other b n (other m i) = other m (inside_other b n i)
inside_other b n (doubled i) = doubled (inside_other b n i)

inside_doubled : {qs : List ℕ} → Inside qs → Inside (qs ++ DQUOTE ∷ DQUOTE ∷ [])
inside_doubled nothing = doubled nothing
inside_doubled (other m i) = other m (inside_doubled i)
inside_doubled (doubled i) = doubled (inside_doubled i)

-- a quote opens a quoted field
pub opened : (s : State) (b : ℕ) → s ≡ Start → b ≡ DQUOTE → (bs : List ℕ) → SoFar s bs → SoFar Quoted (bs ++ b ∷ [])
opened s b e f bs h = let none : bs ≡ [] = subst (λ t. SoFar t bs) e h in ([], ap (λ cs. cs ++ b ∷ []) none ∙ ap (λ x. x ∷ []) f, nothing)

-- another byte stays between the quotes
pub kept : (s : State) (b : ℕ) → s ≡ Quoted → (b ≡ DQUOTE → ⊥) → (bs : List ℕ) → SoFar s bs → SoFar Quoted (bs ++ b ∷ [])
kept s b e n bs h =
    let held : SoFar Quoted bs = subst (λ t. SoFar t bs) e h in
    (held.0 ++ b ∷ [], ap (λ cs. cs ++ b ∷ []) held.1, inside_other b n held.2)

-- a second quote doubles the first
pub reopened : (s : State) (b : ℕ) → s ≡ AfterQuote → b ≡ DQUOTE → (bs : List ℕ) → SoFar s bs → SoFar Quoted (bs ++ b ∷ [])
reopened s b e f bs h =
    let shut : SoFar AfterQuote bs = subst (λ t. SoFar t bs) e h in
    let same : bs ++ b ∷ [] ≡ (DQUOTE ∷ shut.0 ++ DQUOTE ∷ []) ++ DQUOTE ∷ [] = (λ i. shut.1 i ++ f i ∷ []) in
    (shut.0 ++ DQUOTE ∷ DQUOTE ∷ [], same ∙ ap (λ cs. DQUOTE ∷ cs) (append_assoc shut.0 (DQUOTE ∷ []) (DQUOTE ∷ [])), inside_doubled shut.2)

-- no quote so far: all is TEXTDATA
plain : (s : State) → (s ≡ Quoted → ⊥) → (s ≡ AfterQuote → ⊥) → (bs : List ℕ) → SoFar s bs → AllByRecursion TEXTDATA bs
plain Start n m bs h = subst (AllByRecursion TEXTDATA) (sym h) tt
plain Bare n m bs h = h.1
plain Quoted n m bs h = absurd (n refl)
plain AfterQuote n m bs h = absurd (m refl)

-- bytes that are not empty and all TEXTDATA begin with no quote, whatever follows
unquoted_plain : (bs more : List ℕ) → 0 < length bs → AllByRecursion TEXTDATA bs → Unquoted (bs ++ more)
unquoted_plain [] more some all = absurd (omega arith)
unquoted_plain (b ∷ bs) more some all = all.0.no_quote

unquoted_front : (s : State) (b : ℕ) (bs more : List ℕ) → (s ≡ Quoted → ⊥) → (s ≡ AfterQuote → ⊥) → (s ≡ Start → b ≡ DQUOTE → ⊥) → SoFar s bs → Unquoted (bs ++ b ∷ more)
unquoted_front Start b bs more n m k h = subst (λ cs. Unquoted (cs ++ b ∷ more)) (sym h) (k refl)
unquoted_front Bare b bs more n m k h = unquoted_plain bs (b ∷ more) h.0 h.1
unquoted_front Quoted b bs more n m k h = absurd (n refl)
unquoted_front AfterQuote b bs more n m k h = absurd (m refl)

-- a byte that no bare field holds
module _ (s : State) (n : s ≡ Quoted → ⊥) (m : s ≡ AfterQuote → ⊥) (bs more : List ℕ) (h : SoFar s bs) where
  strays : (b : ℕ) → (s ≡ Start → b ≡ DQUOTE → ⊥) → Stray (b ∷ more) → Offence StrayByte (bs ++ b ∷ more)
  strays b k wrong = stray bs (b ∷ more) refl (plain s n m bs h) wrong (unquoted_front s b bs more n m k h)

  pub stray_quote : (b : ℕ) → b ≡ DQUOTE → (s ≡ Start → ⊥) → Offence StrayByte (bs ++ b ∷ more)
  stray_quote b e k = strays b (λ p _. k p) (subst (λ x. Stray (x ∷ more)) (sym e) quote)

  pub stray_lf : (b : ℕ) → b ≡ LF → Offence StrayByte (bs ++ b ∷ more)
  stray_lf b e = strays b (λ _ q. omega arith) (subst (λ x. Stray (x ∷ more)) (sym e) lf)

  pub stray_cr : (b : ℕ) (flag : Bool) → b ≡ CR → flag ≡ false → ((cs : List ℕ) → more ≡ LF ∷ cs → flag ≡ true) → Offence StrayByte (bs ++ b ∷ more)
  stray_cr b flag e left told =
      let lone : (cs : List ℕ) → more ≡ LF ∷ cs → ⊥ = λ cs p. let t = told cs p in grind arith in
      strays b (λ _ q. omega arith) (subst (λ x. Stray (x ∷ more)) (sym e) (cr lone))

-- a byte after the closing quote that may not follow
follows_not : (b : ℕ) (more : List ℕ) → (b ≡ COMMA → ⊥) → (b ≡ CR → (cs : List ℕ) → more ≡ LF ∷ cs → ⊥) → Follows (b ∷ more) → ⊥
follows_not b more n m a_comma = n refl
follows_not b more n m (a_line_end {bs}) = m refl bs refl

pub runs_on : (s : State) (b : ℕ) (flag : Bool) → s ≡ AfterQuote → (b ≡ DQUOTE → ⊥) → (b ≡ COMMA → ⊥) → (b ≡ CR → flag ≡ false) → (bs more : List ℕ) → SoFar s bs → ((cs : List ℕ) → more ≡ LF ∷ cs → flag ≡ true) → Offence BrokenQuotes (bs ++ b ∷ more)
runs_on s b flag e n m left bs more h told =
    let shut : SoFar AfterQuote bs = subst (λ t. SoFar t bs) e h in
    let lone : b ≡ CR → (cs : List ℕ) → more ≡ LF ∷ cs → ⊥ = λ p cs q. let l = left p in let t = told cs q in grind arith in
    run_on shut.0 (b ∷ more) (ap (λ cs. cs ++ b ∷ more) shut.1 ∙ ap (λ cs. DQUOTE ∷ cs) (append_assoc shut.0 (DQUOTE ∷ []) (b ∷ more))) shut.2 n
    (follows_not b more m lone)
