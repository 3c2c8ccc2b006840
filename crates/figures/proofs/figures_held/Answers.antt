use Rattle.std.proofs.Common.{refl}
use Rattle.figures.proofs.Hold.{hold}
use Rattle.figures.proofs.figures_held.Goals as goal

pub returns : goal.returns
returns c = (refl, hold)
