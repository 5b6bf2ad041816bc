-- The forty bytes of a line are cut out, set, and put back. Assumes nothing.
use Rattle.writer.proofs.Laws.{cut}
use Rattle.model.specs.Writing.{with_line}
use Rattle.writer.proofs.write_line.Goals as goal

pub returns : goal.returns
unfolding with_line
returns c = rw (c.set_line.ensures, c.text-t.ensures, cut)
