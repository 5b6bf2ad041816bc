-- A line that is cleared first becomes the line that the definition sets, whatever stood there. Assumes nothing.
use Rattle.written_line.proofs.ClearedColumns.{cleared-word}
use Rattle.written_line.proofs.LineFields.{line_made}
use mathlib.Core.Path.{◌∙◌}
use Rattle.written_line.proofs.set_line.Goals as goal

pub set_fields-requires : goal.set_fields-requires
set_fields-requires c =
    (c.set_word.auto.l ∙ c.clear.auto.l ∙ c.requires, cleared-word _ _ _ c.set_word.ensures c.clear.ensures)

pub returns : goal.returns
returns c =
    line_made _ _ _ _ _ _ (c.clear.auto.l ∙ c.requires) c.requires c.set_word.ensures c.set_fields.ensures
