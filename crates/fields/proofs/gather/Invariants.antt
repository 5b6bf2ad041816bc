-- The loop's invariant: so far there are digits, and they give the number. Assumes nothing.
use Rattle.std.proofs.Common.{◌≡◌, ◌≤◌, cond}
use Rattle.model.specs.declared.text.Shape.TheVariants.{Digits, Signed}
use Rattle.model.specs.Text.{shape_of, digits_of}
use Rattle.fields.proofs.gather.Given as goal

abbrev pub invariant-loop-j : goal.invariant-loop-j
invariant-loop-j g l = (l.j ≤ g.K.FieldKind.COLUMNS) × (shape_of l.l l.at l.j ≡ cond l.negative Signed Digits) × (g.K.FieldKind.value l.v ≡ digits_of l.l l.at l.j)
