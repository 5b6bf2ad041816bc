-- Each field is read at its columns. Assumes nothing.
use Rattle.std.proofs.Common.{◌∙◌}
use Rattle.model.specs.Lines.{width_of, fields_in}
use Rattle.columns.proofs.KeptShapes.{six-kept}
use Rattle.lines.proofs.line.read_fields.Goals as goal

pub returns : goal.returns
unfolding fields_in width_of
returns c =
    c.six.ensures
    ∙ six-kept (fields_in c.args.l.now) c.read_field-a.ensures c.read_field-b.ensures c.read_field-c.ensures c.read_field-d.ensures c.read_field-e.ensures c.read_field-f.ensures
