-- Acceptance limits by the decision rules, and what they are refused for.
use Rattle.std.specs.Prelude.{ℕ, Bool, true, ℤ, ◌+ℤ◌, ◌-ℤ◌, is_some, Some, None, Option, int_le}
use Rattle.std.specs.Option.{option_map}
use Rattle.faults.specs.declared.Refusal.{Refusal}
use Rattle.faults.specs.declared.Refusal.TheVariants.{NoOffset, NothingAcceptable}
use Rattle.faults.specs.Faults.{check, first_of}
use Rattle.knowledge.specs.Knowledge.{Answers}
use Rattle.requirement.specs.Limits.{within}
use Rattle.requirement.specs.declared.rules.Rule.{Rule}
use Rattle.requirement.specs.declared.rules.Rule.TheVariants.{Simple, Guard, Multiple, Shares}
use Rattle.requirement.specs.declared.requirements.Requirement.{Requirement}
use Rattle.acceptance.specs.Guard.{width_of, width_refusal}
use Rattle.acceptance.specs.Search.{least_offset, greatest_offset}
use Rattle.acceptance.specs.declared.bounds.Acceptance.{Acceptance}
use Rattle.acceptance.specs.declared.search.Side.{Side}
use Rattle.acceptance.specs.declared.search.Side.TheVariants.{Lower, Upper}

-- each tolerance limit moved inwards by the width of the guard band
abbrev pub guarded : Option ℤ → Option ℤ → ℤ → Acceptance
guarded l u w = record { lower = option_map (λ x. x +ℤ w) l; upper = option_map (λ x. x -ℤ w) u }

-- within the tolerance limits moved outwards by w, ends included
abbrev pub widened : Option ℤ → Option ℤ → ℤ → ℤ → Bool
widened l u w y = within (option_map (λ x. x -ℤ w) l) (option_map (λ x. x +ℤ w) u) y

-- shares: the lower limit less the greatest offset whose ceiling stays within its share, the upper limit less the least
-- offset whose floor reaches a million less its share; an absent limit has no acceptance limit
abbrev pub share_limit : Answers → Side → Option ℤ → ℕ → Option (Option ℤ)
share_limit k side None share = Some None
share_limit k Lower (Some l) share = option_map (λ x. Some (l -ℤ x)) (greatest_offset k share)
share_limit k Upper (Some u) share = option_map (λ x. Some (u -ℤ x)) (least_offset k share)

abbrev pub both_limits : Option (Option ℤ) → Option (Option ℤ) → Option Acceptance
both_limits None u = None
both_limits (Some l) None = None
both_limits (Some l) (Some u) = Some (record { lower = l; upper = u })

-- the acceptance limits under each rule, for an expanded uncertainty; none where shares find no such offset
abbrev pub by_rule : Rule → Option ℤ → Option ℤ → ℤ → Answers → Option Acceptance
by_rule Simple l u expanded k = Some (guarded l u (width_of Simple expanded))
by_rule (Guard w) l u expanded k = Some (guarded l u (width_of (Guard w) expanded))
by_rule (Multiple r) l u expanded k = Some (guarded l u (width_of (Multiple r) expanded))
by_rule (Shares lower upper) l u expanded k = both_limits (share_limit k Lower l lower) (share_limit k Upper u upper)

abbrev pub acceptance : Requirement → ℤ → Answers → Option Acceptance
acceptance q expanded k = by_rule q.rule q.tolerance.lower q.tolerance.upper expanded k

-- the lower acceptance limit is not above the upper one
abbrev pub in_order : Option ℤ → Option ℤ → Bool
in_order None u = true
in_order (Some l) None = true
in_order (Some l) (Some u) = int_le l u

abbrev pub uncrossed : Option Acceptance → Bool
uncrossed None = true
uncrossed (Some a) = in_order a.lower a.upper

-- what acceptance limits are refused for, in this order: the expanded uncertainty, no such offset, nothing between them
abbrev pub acceptance_refusal : Option Acceptance → Option Refusal
acceptance_refusal a = check (is_some a) NoOffset (check (uncrossed a) NothingAcceptable None)

abbrev pub limits_refusal : Requirement → ℤ → Answers → Option Refusal
limits_refusal q expanded k = first_of (width_refusal expanded) (acceptance_refusal (acceptance q expanded k))
