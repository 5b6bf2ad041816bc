-- The four bytes are compared as the definition does. Assumes nothing.
use Rattle.model.specs.Words.{begins}
use Rattle.lines.proofs.words.begins_with.Goals as goal

pub returns : goal.returns
unfolding begins
returns c = rw (c.same.ensures, c.text.ensures)
