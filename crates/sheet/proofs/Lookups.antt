-- Looking a requirement up in a sheet: what is found has the key, and where nothing is found no requirement has it.
use Rattle.std.proofs.Common.{◌≡◌, ℕ, zero, suc, Bool, true, false, cond, ◌&&◌, eqb, List, [], ◌∷◌, map, get_or, is_some, Some, None, Option, sym, refl, ap, ◌∙◌, arith}
use Rattle.std.specs.Cmp.{nat_cmp_total, then_total, on_total}
use Rattle.std.specs.List.{ContainsAt as Has}
use Rattle.std.proofs.lemmas.Bool.{and_parts, and_from, eqb-true, eq-eqb, true≢false}
use Rattle.requirement.specs.Keys.{key_of}
use Rattle.requirement.specs.declared.requirements.Requirement.{Requirement}
use Rattle.table.specs.Changes.{Picked}
use Rattle.table.specs.Keys.{Ascending}
use Rattle.table.specs.Places.{Stands}
use Rattle.table.proofs.Standing.{one_place}
use Rattle.sheet.specs.Sheets.{lookup}
use Rattle.std.specs.Ordering.{nat_cmp, ordering_then}

has_later : {X : Type 0} (y : X) (xs : List X) (x : X) → Has xs x → Has (y ∷ xs) x
has_later y xs x h = (suc h.0, omega (arith, h.1), h.2)

has_cons : {X : Type 0} (P : Type 0) (y : X) (xs : List X) (x : X) → Has (y ∷ xs) x → (y ≡ x → P) → (Has xs x → P) → P
has_cons P y xs x (zero, within, at) here later = here (at x)
has_cons P y xs x (suc k, within, at) here later = later (k, omega arith, at)

-- the test of the keys, and what it says
matches : Requirement → ℕ → ℕ → Bool
matches q c h = eqb q.class c && eqb q.characteristic h

matched : (q : Requirement) (c h : ℕ) → matches q c h ≡ true → key_of q ≡ (c, h)
unfolding matches
matched q c h e =
    let both = and_parts (eqb q.class c) (eqb q.characteristic h) e in
    cc (eqb-true q.class c both.0, eqb-true q.characteristic h both.1)

matches_key : (q : Requirement) (c h : ℕ) → key_of q ≡ (c, h) → matches q c h ≡ true
unfolding matches
matches_key q c h e =
    and_from (eqb q.class c) (eqb q.characteristic h) (eq-eqb q.class c (ap (λ x. x.0) e)) (eq-eqb q.characteristic h (ap (λ x. x.1) e))

-- one more requirement before those that were looked through
picks_more : (q : Requirement) (qs : List Requirement) (c h : ℕ) (b : Bool) (o : Option Requirement) → matches q c h ≡ b → Picked key_of qs (c, h) o
    → Picked key_of (q ∷ qs) (c, h) (cond b (Some q) o)
picks_more q qs c h true o e picked = ((0, omega arith, λ d. refl), matched q c h e)
picks_more q qs c h false (Some x) e picked = (has_later q qs x picked.0, picked.1)
picks_more q qs c h false None e picked =
    λ stands.
    has_cons ⊥ (key_of q) (map key_of qs) (c, h) stands (λ same. true≢false (sym (matches_key q c h same) ∙ e)) picked

pub lookup_picks : (qs : List Requirement) (c h : ℕ) → Picked key_of qs (c, h) (lookup qs c h)
unfolding matches
lookup_picks [] c h = λ stands. absurd (omega (arith, stands.1))
lookup_picks (q ∷ qs) c h = picks_more q qs c h (eqb q.class c && eqb q.characteristic h) (lookup qs c h) refl (lookup_picks qs c h)

-- a requirement in the list has a key that stands
has_stands : (qs : List Requirement) (x : Requirement) (k : ℕ × ℕ) → Has qs x → key_of x ≡ k → Stands key_of qs k
has_stands [] x k h e = absurd (omega (arith, h.1))
has_stands (q ∷ qs) x k h e =
    has_cons (Stands key_of (q ∷ qs) k) q qs x h (λ same. (0, omega arith, λ d. ap key_of same ∙ e)) (λ later. has_later (key_of q) (map key_of qs) k (has_stands qs x k later e))

module _ (qs : List Requirement) (ascending : Ascending key_of (λ x y. ordering_then (nat_cmp x.0 y.0) (nat_cmp x.1 y.1)) qs) where
  -- no two requirements have one key
  same_key : (x y : Requirement) → Has qs x → Has qs y → key_of x ≡ key_of y → x ≡ y
  same_key x y hx hy e =
      let i = hx.0 in
      let j = hy.0 in
      let keys = ap key_of (hx.2 x) ∙ e ∙ sym (ap key_of (hy.2 x)) in
      let place = one_place key_of (then_total (on_total (λ p. p.0) nat_cmp_total) (on_total (λ p. p.1) nat_cmp_total)) qs ascending i j x hx.1 hy.1 keys in
      sym (hx.2 x) ∙ ap (λ n. get_or qs n x) place ∙ hy.2 x

  -- so what is picked is what is looked up
  pub picked_unique : (k : ℕ × ℕ) (o o' : Option Requirement) → Picked key_of qs k o → Picked key_of qs k o' → o ≡ o'
  picked_unique k (Some x) (Some y) p p' = ap Some (same_key x y p.0 p'.0 (p.1 ∙ sym p'.1))
  picked_unique k (Some x) None p p' = absurd (p' (has_stands qs x k p.0 p.1))
  picked_unique k None (Some y) p p' = absurd (p (has_stands qs y k p'.0 p'.1))
  picked_unique k None None p p' = refl

-- a key stands exactly where a requirement is looked up
pub stands_some : (qs : List Requirement) (k : ℕ × ℕ) (o : Option Requirement) → Picked key_of qs k o → Stands key_of qs k → is_some o ≡ true
stands_some qs k (Some x) p stands = refl
stands_some qs k None p stands = absurd (p stands)

pub absent_none : (qs : List Requirement) (k : ℕ × ℕ) (o : Option Requirement) → Picked key_of qs k o → (Stands key_of qs k → ⊥) → is_some o ≡ false
absent_none qs k (Some x) p absent = absurd (absent (has_stands qs x k p.0 p.1))
absent_none qs k None p absent = refl
