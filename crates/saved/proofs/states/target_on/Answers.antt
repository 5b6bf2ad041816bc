-- A JUMP names its target. Assumes nothing.
use Rattle.std.proofs.Common.{sym, ◌∙◌}
use Rattle.model.specs.declared.text.Word.TheVariants.{Jump}
use Rattle.saved.proofs.StateLines.{no_target, target, numbers-kept}
use Rattle.saved.proofs.states.target_on.Goals as goal

pub returns-then-not-is_line_of : goal.returns-then-not-is_line_of
returns-then-not-is_line_of c = no_target _ (sym c.is_line_of.ensures ∙ c.if-not-is_line_of.true)

pub returns : goal.returns
returns c =
    let is = sym c.is_line_of.ensures ∙ c.if-not-is_line_of.false in
    rw (numbers-kept c.args.l.now Jump is c.read_fields.result c.read_fields.ensures).1 (target _ is)
