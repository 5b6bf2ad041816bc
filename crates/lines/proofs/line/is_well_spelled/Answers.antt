-- The two parts are those of the definition. Assumes nothing.
use Rattle.model.specs.Lists.{every_below}
use Rattle.model.specs.Lines.{well_spelled}
use Rattle.lines.proofs.line.is_well_spelled.Goals as goal

pub returns : goal.returns
unfolding well_spelled every_below
returns c = rw c.all_printable.ensures
