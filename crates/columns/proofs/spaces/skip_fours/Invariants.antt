-- The loop's invariant: the columns passed are spaces. Assumes nothing.
use Rattle.std.proofs.Common.{◌≡◌, ◌*◌}
use Rattle.model.specs.declared.text.Shape.TheVariants.{Spaces}
use Rattle.model.specs.Text.{shape_of, digits_of}
use Rattle.columns.proofs.spaces.skip_fours.Given as goal

abbrev pub invariant-loop-k : goal.invariant-loop-k
invariant-loop-k l = (shape_of l.l l.at (4 * l.k) ≡ Spaces) × (digits_of l.l l.at (4 * l.k) ≡ 0)
