-- The columns are blank, or hold something from the first that is no space. Assumes nothing.
use Rattle.std.proofs.Common.{sym, ap, ◌∙◌}
use Rattle.columns.specs.Kept.{kept}
use Rattle.columns.proofs.Shapes.{blank}
use Rattle.fields.proofs.read_field.Goals as goal

pub returns-then-i-COLUMNS : goal.returns-then-i-COLUMNS
returns-then-i-COLUMNS g c = sym (ap (kept g.K.FieldKind.SIGNED) (blank _ _ c.skip_spaces-i.result _ (c.if-i-COLUMNS.true ∙ c.COLUMNS-2.ensures) c.skip_spaces-i.ensures.upper_bound.1))
