-- Each field is set in a line that is spaces from its first column on. Assumes nothing.
use native.Mathlib.Omega.{arith}
use mathlib.Core.Path.{◌∙◌}
use Rattle.model.specs.Lines.{width_of}
use Rattle.written_line.proofs.set_fields.Goals as goal

pub set_at-requires-2 : goal.set_at-requires-2
unfolding width_of
set_at-requires-2 c = (c.set_at.auto.l ∙ c.requires.0, omega arith, c.set_at.ensures.cleared_from)

pub set_at-requires-3 : goal.set_at-requires-3
unfolding width_of
set_at-requires-3 c = (c.set_at-2.auto.l ∙ c.set_at.auto.l ∙ c.requires.0, omega arith, c.set_at-2.ensures.cleared_from)

pub set_at-requires-4 : goal.set_at-requires-4
unfolding width_of
set_at-requires-4 c = (c.set_at-3.auto.l ∙ c.set_at-2.auto.l ∙ c.set_at.auto.l ∙ c.requires.0, omega arith, c.set_at-3.ensures.cleared_from)

pub set_at-requires-5 : goal.set_at-requires-5
unfolding width_of
set_at-requires-5 c = (c.set_at-4.auto.l ∙ c.set_at-3.auto.l ∙ c.set_at-2.auto.l ∙ c.set_at.auto.l ∙ c.requires.0, omega arith, c.set_at-4.ensures.cleared_from)

pub set_at-requires-6 : goal.set_at-requires-6
unfolding width_of
set_at-requires-6 c = (c.set_at-5.auto.l ∙ c.set_at-4.auto.l ∙ c.set_at-3.auto.l ∙ c.set_at-2.auto.l ∙ c.set_at.auto.l ∙ c.requires.0, omega arith, c.set_at-5.ensures.cleared_from)
