-- Acceptance limits under shares from two tests: one place fails and the next passes. The rules of the answers do the rest, so that
-- the search is never run through.
use Rattle.std.proofs.Common.{◌≡◌, ℕ, suc, ◌<◌, true, false, ℤ, ◌-ℤ◌, Some, None, Option, ap, arith}
use Rattle.std.specs.Option.{option_map}
use Rattle.knowledge.specs.Knowledge.{Answers, Rules}
use Rattle.acceptance.specs.Search.{first_below, offset_at, keeps_share}
use Rattle.acceptance.specs.Acceptance.{share_limit}
use Rattle.acceptance.specs.declared.search.Side.{Side}
use Rattle.acceptance.specs.declared.search.Side.TheVariants.{Lower, Upper}
use Rattle.acceptance.proofs.FirstHits.{first_found, first_none, failed_before}

module _ (k : Answers) (r : Rules k) where
  -- the limit of one side by the place that the search finds
  by_place : (side : Side) (l : ℤ) (share : ℕ) (o : Option ℕ) → first_below (keeps_share k side share) 4000001 ≡ o
      → share_limit k side (Some l) share ≡ option_map (λ i. Some (l -ℤ offset_at side i)) o
  by_place Lower l share None e = ap (λ p. option_map (λ x. Some (l -ℤ x)) (option_map (offset_at Lower) p)) e
  by_place Lower l share (Some i) e = ap (λ p. option_map (λ x. Some (l -ℤ x)) (option_map (offset_at Lower) p)) e
  by_place Upper l share None e = ap (λ p. option_map (λ x. Some (l -ℤ x)) (option_map (offset_at Upper) p)) e
  by_place Upper l share (Some i) e = ap (λ p. option_map (λ x. Some (l -ℤ x)) (option_map (offset_at Upper) p)) e

  -- the place i fails and the next one passes
  pub limit_after : (side : Side) (l : ℤ) (share i : ℕ) → suc i < 4000001 → keeps_share k side share i ≡ false → keeps_share k side share (suc i) ≡ true
      → share_limit k side (Some l) share ≡ Some (Some (l -ℤ offset_at side (suc i)))
  limit_after side l share i lt fails passes =
      by_place side l share (Some (suc i))
      (first_found (keeps_share k side share) 4000001 (suc i) lt passes (λ j h. failed_before k r side share j i (omega arith) fails))

  -- the last place fails
  pub no_limit : (side : Side) (l : ℤ) (share : ℕ) → keeps_share k side share 4000000 ≡ false → share_limit k side (Some l) share ≡ None
  no_limit side l share fails =
      by_place side l share None (first_none (keeps_share k side share) 4000001 (λ i h. failed_before k r side share i 4000000 (omega arith) fails))
