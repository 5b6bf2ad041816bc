-- A line that no refusal turns back. Assumes nothing.
use Rattle.std.proofs.Common.{sym, ◌∙◌}
use Rattle.saved.proofs.StateLines.{begun, ok_or-refused}
use Rattle.saved.proofs.states.is_line_of.Goals as goal

pub returns : goal.returns
returns c =
    rw (c.is_ok.ensures.value, c.judge.ensures _ c.read_fields.ensures, ok_or-refused)
    (begun _ _ (sym c.is_well_spelled.ensures ∙ c.if-not-is_well_spelled.false) (sym c.begins_with.ensures ∙ c.if-not-begins_with.false))
