-- Why shares decide exactly: the acceptance limit of a side, the answer at the offset to its limit, and every admitted
-- distribution's risk on that side say the same.
use Rattle.std.proofs.Common.{◌≡◌, ℕ, ◌-◌, ◌*◌, ◌<◌, ◌≤◌, Bool, true, false, cond, ℤ, ◌-ℤ◌, nat_abs, Some, None, Option, sym, refl, ap, ◌∙◌, subst, ⊎_elim, mul-le-mul_right, mul_comm, arith}
use native.Mathlib.Nat.{mul-sub}
use Rattle.std.specs.Option.{option_map}
use Rattle.std.proofs.lemmas.Int.{ints}
use Rattle.std.proofs.lemmas.Bool.{leb-true, le-leb, true≢false, cases_lt, and_parts, and_from}
use Rattle.knowledge.specs.Millionths.{million}
use Rattle.knowledge.specs.Offsets.{Offset, least, greatest}
use Rattle.knowledge.specs.Knowledge.{Answers, Rules}
use Rattle.knowledge.specs.Distributions.{Distribution, Admitted}
use Rattle.knowledge.proofs.Witnesses.{over_million, is_admitted, floor_is_between, ceiling_is_between}
use Rattle.requirement.specs.Limits.{in_reach, limit_in_reach, not_below, not_above, within}
use Rattle.acceptance.specs.Search.{first_below, offset_at, keeps_share}
use Rattle.acceptance.specs.Acceptance.{widened, share_limit, both_limits}
use Rattle.acceptance.specs.declared.bounds.Acceptance.{Acceptance}
use Rattle.acceptance.specs.declared.search.Side.{Side}
use Rattle.acceptance.specs.declared.search.Side.TheVariants.{Lower, Upper}
use Rattle.acceptance.proofs.FirstHits.{Says, says, keeps_on}
use Rattle.requirement.specs.declared.requirements.Requirement.{Requirement}
use Rattle.requirement.specs.declared.rules.Mode.{Mode}
use Rattle.requirement.specs.declared.rules.Mode.TheVariants.{Two, Four}
use Rattle.judging.specs.declared.answers.Verdict.TheVariants.{Pass, ConditionalPass, ConditionalFail, Fail}
use Rattle.judging.specs.Verdicts.{accepts, not_accepted, verdict_by}
use Rattle.judging.specs.Guarantee.{beyond, SharesDecide}
use Rattle.judging.proofs.BracketHolds.{offset_of}

-- every offset has its place in the order of the search
place_of : (side : Side) (x : ℤ) → Offset x → (n : ℕ) × (n < 4000001) × (offset_at side n ≡ x)
place_of Lower x o = (nat_abs (greatest -ℤ x), omega (arith, ints, o.not_below, o.not_above), omega (arith, ints, o.not_below, o.not_above))
place_of Upper x o = (nat_abs (x -ℤ least), omega (arith, ints, o.not_below, o.not_above), omega (arith, ints, o.not_below, o.not_above))

-- the acceptance limit of a side admits the reading
abbrev pub side_admits : Side → Option ℤ → ℤ → Bool
side_admits Lower a y = not_below a y
side_admits Upper a y = not_above a y

-- a reading is admitted exactly where its offset comes no earlier in the search than the one of the acceptance limit
admits_later : (side : Side) (limit y : ℤ) (i n : ℕ) → offset_at side n ≡ limit -ℤ y → side_admits side (Some (limit -ℤ offset_at side i)) y ≡ true → i ≤ n
admits_later Lower limit y i n e h = omega (arith, ints)
admits_later Upper limit y i n e h = omega (arith, ints)

later_admits : (side : Side) (limit y : ℤ) (i n : ℕ) → offset_at side n ≡ limit -ℤ y → i ≤ n → side_admits side (Some (limit -ℤ offset_at side i)) y ≡ true
later_admits Lower limit y i n e h = grind (arith, ints)
later_admits Upper limit y i n e h = grind (arith, ints)

-- an acceptance limit that was found comes from a place of the search
found_out : (f : ℕ → ℤ) (o : Option ℕ) (limit : ℤ) (a : Option ℤ) → option_map (λ x. Some (limit -ℤ x)) (option_map f o) ≡ Some a → (i : ℕ) × (o ≡ Some i) × (a ≡ Some (limit -ℤ f i))
found_out f None limit a e = cc
found_out f (Some i) limit a e = (i, refl, cc)

both_out : (l u : Option (Option ℤ)) (a : Acceptance) → both_limits l u ≡ Some a → (l ≡ Some a.lower) × (u ≡ Some a.upper)
both_out None u a e = cc
both_out (Some l) None a e = cc
both_out (Some l) (Some u) a e = (cc, cc)

-- only an accepted reading passes
no_pass : (b b' : Bool) → cond b ConditionalPass (cond b' ConditionalFail Fail) ≡ Pass → ⊥
no_pass true b' e = cc
no_pass false true e = cc
no_pass false false e = cc

pass_accepted : (b : Bool) (mode : Mode) (l u : Option ℤ) (w y : ℤ) → cond b Pass (not_accepted mode l u w y) ≡ Pass → b ≡ true
pass_accepted true mode l u w y e = refl
pass_accepted false Two l u w y e = cc
pass_accepted false Four l u w y e = absurd (no_pass (within l u y) (widened l u w y) e)

module _ (k : Answers) (r : Rules k) where
  -- the answer at an offset keeps a side's share
  abbrev Keeps : Side → ℕ → ℤ → Type 0
  Keeps Lower share x = k.ceiling x ≤ share
  Keeps Upper share x = million - share ≤ k.floor x

  keeps_out : (side : Side) (share n : ℕ) → keeps_share k side share n ≡ true → Keeps side share (offset_at side n)
  keeps_out Lower share n h = leb-true (k.ceiling (offset_at Lower n)) share h
  keeps_out Upper share n h = leb-true (million - share) (k.floor (offset_at Upper n)) h

  keeps_in : (side : Side) (share n : ℕ) → Keeps side share (offset_at side n) → keeps_share k side share n ≡ true
  keeps_in Lower share n h = le-leb (k.ceiling (offset_at Lower n)) share h
  keeps_in Upper share n h = le-leb (million - share) (k.floor (offset_at Upper n)) h

  -- every admitted distribution keeps the side's risk within the share
  abbrev AllKeep : Side → Option ℤ → ℤ → ℕ → Type 0
  AllKeep side limit y share = (d : Distribution) → Admitted k d → million * beyond d side limit y ≤ share * d.parts

  keeps_all : (side : Side) (limit y : ℤ) (share : ℕ) → Offset (limit -ℤ y) → Keeps side share (limit -ℤ y) → AllKeep side (Some limit) y share
  keeps_all Lower limit y share o h d ad =
      omega (arith, ad.under_ceiling (limit -ℤ y) o, mul-le-mul_right d.parts h)
  keeps_all Upper limit y share o h d ad =
      let short : million - k.floor (limit -ℤ y) ≤ share = omega arith in
      omega (
        arith,
        ad.over_floor (limit -ℤ y) o,
        mul-le-mul_right d.parts short,
        mul-sub million d.parts (d.at_most (limit -ℤ y)),
        mul-sub d.parts million (k.floor (limit -ℤ y)),
        mul_comm d.parts (million - k.floor (limit -ℤ y)),
        mul_comm d.parts (k.floor (limit -ℤ y)),
      )

  all_keeps : (side : Side) (limit y : ℤ) (share : ℕ) → AllKeep side (Some limit) y share → Keeps side share (limit -ℤ y)
  all_keeps Lower limit y share h =
      omega (arith, h (over_million k r k.ceiling (ceiling_is_between k r)) (is_admitted k r k.ceiling (ceiling_is_between k r)))
  all_keeps Upper limit y share h =
      omega (arith, h (over_million k r k.floor (floor_is_between k r)) (is_admitted k r k.floor (floor_is_between k r)), r.ordered (limit -ℤ y), r.capped (limit -ℤ y))

  -- what the search found: the first place that keeps the share
  abbrev First : Side → ℕ → ℕ → Type 0
  First side share i = (i < 4000001) × (keeps_share k side share i ≡ true) × ((j : ℕ) → j < i → keeps_share k side share j ≡ false)

  module _ (side : Side) (limit y : ℤ) (share i : ℕ) (first : First side share i) (o : Offset (limit -ℤ y)) where
    -- the reading is admitted exactly where the answer at its offset keeps the share
    admits_keeps : side_admits side (Some (limit -ℤ offset_at side i)) y ≡ true → Keeps side share (limit -ℤ y)
    admits_keeps h =
        let at = place_of side (limit -ℤ y) o in
        subst (Keeps side share) at.2 (keeps_out side share at.0 (keeps_on k r side share i at.0 (admits_later side limit y i at.0 at.2 h) first.1))

    keeps_admits : Keeps side share (limit -ℤ y) → side_admits side (Some (limit -ℤ offset_at side i)) y ≡ true
    keeps_admits h =
        let at = place_of side (limit -ℤ y) o in
        let kept = keeps_in side share at.0 (subst (Keeps side share) (sym at.2) h) in
        let not-before : at.0 < i → ⊥ = λ lt. true≢false (sym kept ∙ first.2 at.0 lt) in
        later_admits side limit y i at.0 at.2 (⊎_elim (λ lt. absurd (not-before lt)) (λ le. le) (cases_lt at.0 i))

  first_from : (side : Side) (share i : ℕ) → first_below (keeps_share k side share) 4000001 ≡ Some i → First side share i
  first_from side share i e = subst (Says (keeps_share k side share) 4000001) e (says (keeps_share k side share) 4000001)

  -- the same of a limit that may be absent
  abbrev DecidesSide : Side → Option ℤ → ℕ → Option ℤ → ℤ → Type 0
  DecidesSide side limit share a y = (side_admits side a y ≡ true → AllKeep side limit y share) × (AllKeep side limit y share → side_admits side a y ≡ true)

  absent : (side : Side) (share : ℕ) (a : Option ℤ) (y : ℤ) → a ≡ None → DecidesSide side None share a y
  absent Lower share a y e = (λ h d ad. omega arith, λ h. ap (λ x. not_below x y) e)
  absent Upper share a y e = (λ h d ad. omega arith, λ h. ap (λ x. not_above x y) e)

  present : (side : Side) (limit : ℤ) (share : ℕ) (a : Option ℤ) (y : ℤ) → in_reach limit ≡ true → in_reach y ≡ true
      → option_map (λ x. Some (limit -ℤ x)) (option_map (offset_at side) (first_below (keeps_share k side share) 4000001)) ≡ Some a → DecidesSide side (Some limit) share a y
  present side limit share a y hl hy e =
      let found = found_out (offset_at side) (first_below (keeps_share k side share) 4000001) limit a e in
      let first = first_from side share found.0 found.1 in
      let o = offset_of limit y hl hy in (
        λ h. keeps_all side limit y share o (admits_keeps side limit y share found.0 first o (subst (λ x. side_admits side x y ≡ true) found.2 h)),
        λ h. subst (λ x. side_admits side x y ≡ true) (sym found.2) (keeps_admits side limit y share found.0 first o (all_keeps side limit y share h)),
      )

  side_decides : (side : Side) (limit : Option ℤ) (share : ℕ) (a : Option ℤ) (y : ℤ) → limit_in_reach limit ≡ true → in_reach y ≡ true
      → share_limit k side limit share ≡ Some a → DecidesSide side limit share a y
  side_decides side None share a y hl hy e = absent side share a y (cc)
  side_decides Lower (Some l) share a y hl hy e = present Lower l share a y hl hy e
  side_decides Upper (Some u) share a y hl hy e = present Upper u share a y hl hy e

  module _ (q : Requirement) (lower upper : ℕ) (y : ℤ) (hy : in_reach y ≡ true) (a : Acceptance)
      (is : both_limits (share_limit k Lower q.tolerance.lower lower) (share_limit k Upper q.tolerance.upper upper) ≡ Some a) where
    lower_side : DecidesSide Lower q.tolerance.lower lower a.lower y
    lower_side = side_decides Lower q.tolerance.lower lower a.lower y q.tolerance.lower_reach hy (both_out _ _ a is).0

    upper_side : DecidesSide Upper q.tolerance.upper upper a.upper y
    upper_side = side_decides Upper q.tolerance.upper upper a.upper y q.tolerance.upper_reach hy (both_out _ _ a is).1

    pub shares_decide : (mode : Mode) (l u : Option ℤ) (w : ℤ) → SharesDecide k q.tolerance y lower upper (verdict_by (Some a) mode l u w y)
    shares_decide mode l u w =
        record {
          passing = λ e d ad.
              let both = and_parts (not_below a.lower y) (not_above a.upper y) (pass_accepted (accepts (Some a) y) mode l u w y e) in
              record { lower_within = lower_side.0 both.0 d ad; upper_within = upper_side.0 both.1 d ad };
          passes = λ h.
              let inside = and_from (not_below a.lower y) (not_above a.upper y) (lower_side.1 (λ d ad. (h d ad).lower_within)) (upper_side.1 (λ d ad. (h d ad).upper_within)) in
              ap (λ b. cond b Pass (not_accepted mode l u w y)) inside;
        }
