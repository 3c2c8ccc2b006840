-- What the tests on limits and readings say, as orders.
use Rattle.std.proofs.Common.{◌≡◌, ℕ, ◌≤◌, true, ◌&&◌, ℤ, pos, neg_ℤ, ◌≤ℤ◌, ◌<ℤ◌, Some, Option, sym, subst, arith}
use lib.Signed.{le_z, lt_z}
use Rattle.std.proofs.lemmas.Int.{ints}
use Rattle.std.proofs.lemmas.Bool.{and_parts, and_from}
use Rattle.requirement.specs.Rules.{is_share, numbers_fit, fits_limits, fits_mode}
use Rattle.requirement.specs.declared.rules.Rule.TheVariants.{Guard, Multiple, Shares}
use Rattle.requirement.specs.declared.requirements.Requirement.{Requirement}
use Rattle.requirement.specs.Limits.{in_reach, ascending}
use Rattle.faults.specs.Ranges.{from_to}

pub range_out : (low high x : ℤ) → from_to low high x ≡ true → (low ≤ℤ x) × (x ≤ℤ high)
range_out low high x h =
    let both = and_parts (le_z low x) (le_z x high) h in
    (omega (arith, ints, both.0), omega (arith, ints, both.1))

pub range_in : (low high x : ℤ) → low ≤ℤ x → x ≤ℤ high → from_to low high x ≡ true
range_in low high x h h' = and_from (le_z low x) (le_z x high) (grind (arith, ints)) (grind (arith, ints))

pub reach_out : (x : ℤ) → in_reach x ≡ true → (neg_ℤ (pos 1000000) ≤ℤ x) × (x ≤ℤ pos 1000000)
reach_out x h = range_out (neg_ℤ (pos 1000000)) (pos 1000000) x h

-- two limits that stand ascend
pub both_ascend : (lower upper : Option ℤ) (l u : ℤ) → ascending lower upper ≡ true → lower ≡ Some l → upper ≡ Some u → l <ℤ u
both_ascend lower upper l u h e f = let at : lt_z l u ≡ true = rw (e, f) at h in omega (arith, ints)

-- the parts of a requirement's invariant
pub numbers_of : (q : Requirement) → numbers_fit q.rule ≡ true
numbers_of q = (and_parts (numbers_fit q.rule) (fits_limits q.rule q.tolerance.lower q.tolerance.upper && fits_mode q.rule q.mode) q.suited).0

pub guard_of : (q : Requirement) (w : ℤ) → Guard w ≡ q.rule → from_to (neg_ℤ (pos 100000)) (pos 100000) w ≡ true
guard_of q w e = subst (λ r. numbers_fit r ≡ true) (sym e) (numbers_of q)

pub multiple_of : (q : Requirement) (r : ℤ) → Multiple r ≡ q.rule → from_to (neg_ℤ (pos 200)) (pos 200) r ≡ true
multiple_of q r e = subst (λ x. numbers_fit x ≡ true) (sym e) (numbers_of q)

pub shares_of : (q : Requirement) (lower upper : ℕ) → Shares lower upper ≡ q.rule → (lower ≤ 500000) × (upper ≤ 500000)
shares_of q lower upper e =
    let both = and_parts (is_share (pos lower)) (is_share (pos upper)) (subst (λ x. numbers_fit x ≡ true) (sym e) (numbers_of q)) in
    let low = range_out (pos 0) (pos 500000) (pos lower) both.0 in
    let high = range_out (pos 0) (pos 500000) (pos upper) both.1 in
    (omega (arith, ints), omega (arith, ints))
