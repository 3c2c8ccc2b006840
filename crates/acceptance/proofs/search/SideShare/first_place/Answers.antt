use Rattle.std.proofs.Common.{◌≡◌, ◌+◌, ◌-◌, ◌/◌, true, false, Some, None, sym, subst, arith}
use Rattle.acceptance.specs.Search.{first_below, keeps_share}
use Rattle.acceptance.proofs.FirstHits.{first_none, first_found, failed_before}
use Rattle.acceptance.proofs.search.SideShare.first_place.Goals as goal

pub returns-then-not-keeps : goal.returns-then-not-keeps
returns-then-not-keeps g c =
    let s = c.args.self.now in
    let k = g.K.Knowledge.answers s.knowledge.now in
    let rules = g.met.K.Knowledge.rules s.knowledge.now in
    let fails : keeps_share k s.side s.share 4000000 ≡ false = cc c.if-not-keeps.ensures in
    let none : first_below (keeps_share k s.side s.share) 4000001 ≡ None =
    first_none _ 4000001 (λ i h. failed_before k rules s.side s.share i 4000000 (omega arith) fails)
    in
    sym none

pub loop-low-preserved : goal.loop-low-preserved
loop-low-preserved g c =
    let s = c.args.self.now in
    let k = g.K.Knowledge.answers s.knowledge.now in
    let rules = g.met.K.Knowledge.rules s.knowledge.now in
    let middle = c.loop-low.low + (c.loop-low.high - c.loop-low.low) / 2 in
    let fails : keeps_share k s.side s.share middle ≡ false = cc c.if-keeps.ensures in
    (omega arith, omega arith, c.loop-low.invariant.2, λ j h. failed_before k rules s.side s.share j middle (omega arith) fails)

pub returns : goal.returns
returns g c =
    let s = c.args.self.now in
    let k = g.K.Knowledge.answers s.knowledge.now in
    let inv = c.loop-low.invariant in
    let met : c.loop-low.low ≡ c.loop-low.high = omega arith in
    let found : first_below (keeps_share k s.side s.share) 4000001 ≡ Some c.loop-low.low =
    first_found _ 4000001 c.loop-low.low (omega arith) (subst (λ i. keeps_share k s.side s.share i ≡ true) (sym met) inv.2) inv.3
    in
    sym found
