use Rattle.std.proofs.Common.{rules}
use Rattle.judging.proofs.BracketHolds.{bracket_holds}
use Rattle.judging.proofs.bracket.Goals as goal

pub returns : goal.returns
returns g c =
    let kept = g.met.K.Knowledge.rules c.args.knowledge.now in
    let holds = bracket_holds _ kept c.args.requirement.now.tolerance c.args.reading in
    search (rules, holds)
