use Rattle.std.proofs.Common.{◌≡◌, ℕ, ◌-◌, ◌<◌, ◌≤◌, true, false}
use Rattle.acceptance.specs.Search.{keeps_share}
use Rattle.acceptance.proofs.search.SideShare.first_place.Given as goal

-- every place before the part that is left fails, and its last place passes
abbrev pub invariant-loop-low : goal.invariant-loop-low
invariant-loop-low g l =
    (l.low ≤ l.high) × (l.high ≤ 4000000) × (keeps_share (g.K.Knowledge.answers l.self.knowledge.now) l.self.side l.self.share l.high ≡ true)
    × ((j : ℕ) → j < l.low → keeps_share (g.K.Knowledge.answers l.self.knowledge.now) l.self.side l.self.share j ≡ false)

abbrev pub decreases-loop-low : goal.decreases-loop-low
decreases-loop-low g l = l.high - l.low
