-- The test decides the case of the definition. Assumes nothing.
use borrow.Author.Tests.{eq-eqb, ne_eqb}
use Rattle.model.specs.Lines.{width_of}
use Rattle.columns.proofs.field.width.Goals as goal

pub returns-then-j-eq5 : goal.returns-then-j-eq5
unfolding width_of
returns-then-j-eq5 c = simp (eq-eqb _ _ c.if-j-eq5.true)

pub returns-else-j-eq5 : goal.returns-else-j-eq5
unfolding width_of
returns-else-j-eq5 c = simp (ne_eqb _ _ c.if-j-eq5.false)
