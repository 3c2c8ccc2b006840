-- The least number that passes a test, and what the rules of the answers say of the tests on shares.
use Rattle.std.proofs.Common.{◌≡◌, ℕ, zero, suc, ◌<◌, ◌≤◌, Bool, true, false, Some, None, Option, sym, refl, subst, ⊎_elim, not-suc-le-zero, arith, MatchOption}
use Rattle.std.proofs.lemmas.Int.{ints}
use Rattle.std.proofs.lemmas.Bool.{cases_eq, cases_Bool}
use Rattle.std.proofs.lemmas.Bool.Decides.{nat_tests}
use Rattle.knowledge.specs.Knowledge.{Answers, Rules}
use Rattle.acceptance.specs.Search.{or_else, first_below, offset_at, keeps_share}
use Rattle.acceptance.specs.declared.search.Side.{Side}
use Rattle.acceptance.specs.declared.search.Side.TheVariants.{Lower, Upper}

module _ (test : ℕ → Bool) where
  pub first_none : (n : ℕ) → ((i : ℕ) → i < n → test i ≡ false) → first_below test n ≡ None
  unfolding first_below
  first_none zero fails = refl
  first_none (suc n) fails = rw (first_none n (λ i h. fails i (omega arith)), fails n (omega arith)) refl

  pub first_found : (n i : ℕ) → i < n → test i ≡ true → ((j : ℕ) → j < i → test j ≡ false) → first_below test n ≡ Some i
  unfolding first_below
  first_found zero i h passes fails = absurd (not-suc-le-zero h)
  first_found (suc n) i h passes fails =
      ⊎_elim
      (λ e. let none = first_none n (λ j l. fails j (omega arith)) in let at : or_else None (test i) i ≡ Some i = rw passes refl in rw none (subst (λ m. or_else None (test m) m ≡ Some i) e at))
      (λ ne. rw (first_found n i (omega arith) passes fails) refl)
      (cases_eq i n)

  -- what an answer says: what was found passes and nothing before it does, or nothing does
  abbrev pub Says : ℕ → Option ℕ → Type 0
  Says n o = MatchOption o ((i : ℕ) → i < n → test i ≡ false) (λ i. (i < n) × (test i ≡ true) × ((j : ℕ) → j < i → test j ≡ false))

  says_more : (n : ℕ) (o : Option ℕ) (b : Bool) → test n ≡ b → Says n o → Says (suc n) (or_else o b n)
  says_more n (Some i) b e h = (omega (arith, h.0), h.1, h.2)
  says_more n None true e h = (omega arith, e, h)
  says_more n None false e h = λ i le. ⊎_elim (λ same. subst (λ m. test m ≡ false) (sym same) e) (λ other. h i (omega arith)) (cases_eq i n)

  pub says : (n : ℕ) → Says n (first_below test n)
  unfolding first_below
  says zero = λ i h. absurd (not-suc-le-zero h)
  says (suc n) = says_more n (first_below test n) (test n) refl (says n)

module _ (k : Answers) (r : Rules k) where
  -- a side that keeps its share goes on keeping it
  pub keeps_on : (side : Side) (share i j : ℕ) → i ≤ j → keeps_share k side share i ≡ true → keeps_share k side share j ≡ true
  keeps_on Lower share i j le h =
      let rises = r.ceiling_rises (offset_at Lower j) (offset_at Lower i) (omega (arith, ints)) in
      grind (arith, nat_tests)
  keeps_on Upper share i j le h =
      let rises = r.floor_rises (offset_at Upper i) (offset_at Upper j) (omega (arith, ints)) in
      grind (arith, nat_tests)

  -- and one that fails it failed it before
  pub failed_before : (side : Side) (share i j : ℕ) → i ≤ j → keeps_share k side share j ≡ false → keeps_share k side share i ≡ false
  failed_before side share i j le h =
      ⊎_elim (λ kept. cc (keeps_on side share i j le kept)) (λ fails. fails) (cases_Bool (keeps_share k side share i))
