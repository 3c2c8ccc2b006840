use Rattle.std.proofs.Common.{◌≡◌, List, length}
use Rattle.text.specs.declared.field.Placed.{Placed}
use Rattle.text.specs.Fronts.{laid}
use Rattle.text.proofs.Gathered.{Sofar}
use Rattle.text.proofs.reader.methods.walk.Given as goal

abbrev pub invariant-loop-front : goal.invariant-loop-front
invariant-loop-front l = (ps : List Placed) × Sofar l.number l.count ps l.rest l.text × (l.fields ≡ laid ps l.initial.fields)

abbrev pub decreases-loop-front : goal.decreases-loop-front
decreases-loop-front l = length l.rest
