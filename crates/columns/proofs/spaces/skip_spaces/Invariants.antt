-- The loop's invariant: the columns passed are spaces. Assumes nothing.
use Rattle.std.proofs.Common.{◌≡◌, ◌≤◌}
use Rattle.model.specs.declared.text.Shape.TheVariants.{Spaces}
use Rattle.model.specs.Text.{shape_of, digits_of}
use Rattle.columns.proofs.spaces.skip_spaces.Given as goal

abbrev pub invariant-loop-i : goal.invariant-loop-i
invariant-loop-i l = (l.i ≤ l.n) × (shape_of l.l l.at l.i ≡ Spaces) × (digits_of l.l l.at l.i ≡ 0)
