use Rattle.std.proofs.Common.{refl}
use Rattle.intake.proofs.Steps.{means_requirement}
use Rattle.intake.proofs.take_in.Goals as goal

pub returns-in-Requirement-clause-lists : goal.returns-in-Requirement-clause-lists
returns-in-Requirement-clause-lists c = rw (means_requirement c.in-Requirement.row _ _ c.in-Requirement.is c.in_ok-row.ensures) (c.add.ensures.lists, (refl, refl))
