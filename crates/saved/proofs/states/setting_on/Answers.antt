-- A SETC sets its register, to a number that fits. Assumes nothing.
use Rattle.std.proofs.Common.{sym, ◌∙◌, arith}
use Rattle.model.specs.declared.text.Word.TheVariants.{Setc}
use Rattle.saved.proofs.StateLines.{no-setting, other-setting, setting, setting-fits, numbers-kept}
use Rattle.saved.proofs.states.setting_on.Goals as goal

pub returns-then-not-is_line_of : goal.returns-then-not-is_line_of
returns-then-not-is_line_of c = no-setting _ _ (sym c.is_line_of.ensures ∙ c.if-not-is_line_of.true)

pub returns-then-x-v : goal.returns-then-x-v
returns-then-x-v c =
    let is = sym c.is_line_of.ensures ∙ c.if-not-is_line_of.false in
    let (f, g, h) = numbers-kept c.args.l.now Setc is c.read_fields-x.result c.read_fields-x.ensures in
    other-setting _ _ is (λ e. c.if-x-v.true (f ∙ e))

pub returns : goal.returns
returns c =
    let is = sym c.is_line_of.ensures ∙ c.if-not-is_line_of.false in
    let (f, g, h) = numbers-kept c.args.l.now Setc is c.read_fields-x.result c.read_fields-x.ensures in
    rw h (setting _ _ is (sym f ∙ c.if-x-v.false))

pub overflow_cast-result : goal.overflow_cast-result
overflow_cast-result c =
    let is = sym c.is_line_of.ensures ∙ c.if-not-is_line_of.false in
    let (f, g, h) = numbers-kept c.args.l.now Setc is c.read_fields-x.result c.read_fields-x.ensures in
    omega (arith, h, setting-fits _ is)
