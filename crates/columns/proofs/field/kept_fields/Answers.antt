-- Each field is kept by itself. Assumes nothing.
use mathlib.Core.Path.{◌∙◌}
use Rattle.columns.proofs.KeptShapes.{six-kept}
use Rattle.columns.proofs.field.kept_fields.Goals as goal

pub returns : goal.returns
returns c = c.six.ensures ∙ six-kept _ c.kept-a.ensures c.kept-b.ensures c.kept-c.ensures c.kept-d.ensures c.kept-e.ensures c.kept-f.ensures
