-- Only a key itself compares as equal, for the law that an entry shows: numbers, signed numbers, pairs and triples.
use Rattle.std.proofs.Common.{◌≡◌, ◌<◌, ◌<ℤ◌, Ordering, Less, Equal, Greater, sym, refl, ap, subst, true≢false}
use Rattle.std.specs.Cmp.{ranks, int_ranks}
use Rattle.std.specs.Ordering.{MatchOrdering, is_eq, ordering_then, nat_cmp, int_cmp}
use Rattle.table.specs.Keys.{Exact}

pub exact_unsigned : Exact nat_cmp
exact_unsigned a b e = subst (λ (k : Ordering). MatchOrdering k (a < b) (a ≡ b) (b < a)) e (ranks a b)

pub exact_signed : Exact int_cmp
exact_signed a b e = subst (λ (k : Ordering). MatchOrdering k (a <ℤ b) (a ≡ b) (b <ℤ a)) e (int_ranks a b)

-- where the second decides only after the first, both are equal
both_equal : (p q : Ordering) → ordering_then p q ≡ Equal → (p ≡ Equal) × (q ≡ Equal)
both_equal Less q e = absurd (true≢false (ap is_eq (sym e)))
both_equal Equal q e = (refl, e)
both_equal Greater q e = absurd (true≢false (ap is_eq (sym e)))

module _ {A B : Type 0} {P : A → A → Ordering} {Q : B → B → Ordering} (exact-p : Exact P) (exact-q : Exact Q) where
  pub exact_pairs : Exact {K = A × B} (λ x y. ordering_then (P x.0 y.0) (Q x.1 y.1))
  exact_pairs x y e =
      let both = both_equal (P x.0 y.0) (Q x.1 y.1) e in
      λ i. (exact-p x.0 y.0 both.0 i, exact-q x.1 y.1 both.1 i)

module _ {A B C : Type 0} {P : A → A → Ordering} {Q : B → B → Ordering} {R : C → C → Ordering} (exact-p : Exact P) (exact-q : Exact Q) (exact-r : Exact R) where
  pub exact_triples : Exact {K = A × B × C} (λ x y. ordering_then (ordering_then (P x.0 y.0) (Q x.1 y.1)) (R x.2 y.2))
  exact_triples x y e =
      let last = both_equal (ordering_then (P x.0 y.0) (Q x.1 y.1)) (R x.2 y.2) e in
      let both = both_equal (P x.0 y.0) (Q x.1 y.1) last.0 in
      λ i. (exact-p x.0 y.0 both.0 i, exact-q x.1 y.1 both.1 i, exact-r x.2 y.2 last.1 i)
