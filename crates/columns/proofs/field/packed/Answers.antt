-- A shape's number is that of the language. Assumes nothing.
use Rattle.columns.proofs.KeptShapes.{shape-number}
use Rattle.columns.proofs.field.packed.Goals as goal

pub returns : goal.returns
returns c = simp shape-number
