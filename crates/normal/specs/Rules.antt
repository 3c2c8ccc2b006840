-- The answers of every normal kind keep the rules of states of knowledge.
use Rattle.std.proofs.Common.{ℕ, ◌≤◌, arith}
use Rattle.knowledge.specs.Knowledge.{Rules}
use Rattle.normal.specs.Normal.{floor_above, ceiling_above, normal}
use Rattle.normal.specs.Halves.{ordered, narrow, floor_upper, ceiling_upper}
use Rattle.normal.specs.Mirror.{mirrored_rules}

pub normal_rules : (s : ℕ) → 1 ≤ s → s ≤ 100000 → Rules (normal s)
normal_rules s some bounded =
    mirrored_rules (floor_above s) (ceiling_above s) 314 (omega arith) (floor_upper s some bounded) (ceiling_upper s some bounded) (ordered s some) (narrow s some)
