use Rattle.std.proofs.lemmas.Int.{to_z-of_z}
use Rattle.figures.proofs.Share.{at_half_width}
use Rattle.figures.proofs.reading.judged_grade.Goals as goal

pub returns : goal.returns
returns c =
    let f = c.ranges.reading in
    at_half_width c.in_ok-requirement.requirement c.in_ok-requirement.ensures c.args.reading
    c.in_ok-knowledge.knowledge.half_width c.in_ok-knowledge.ensures c.judge.result (simp to_z-of_z at c.judge.ensures)
