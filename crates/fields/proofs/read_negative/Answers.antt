-- Each byte after the minus decides its law of the shapes. Assumes nothing.
use Rattle.std.proofs.Common.{sym, ap, ◌∙◌, arith}
use Rattle.columns.specs.Kept.{kept}
use Rattle.columns.proofs.Shapes.{leading-digit, sign-last, sign-digit, sign-other, number-first}
use Rattle.fields.proofs.read_negative.Goals as goal

pub digit-requires : goal.digit-requires
digit-requires g c = leading-digit _ (sym c.is_leading.ensures ∙ c.if-is_leading.true)

pub gather-requires-clause-i_value : goal.gather-requires-clause-i_value
gather-requires-clause-i_value g c =
    let (e, z) = c.requires.i_value in
    (sign-digit _ _ c.args.i e (sym c.is_leading.ensures ∙ c.if-is_leading.true), rw (c.first.ensures, c.digit.ensures) (number-first _ _ c.args.i z))

pub returns-else-is_leading : goal.returns-else-is_leading
returns-else-is_leading g c = sym (ap (kept g.K.FieldKind.SIGNED) (sign-other _ _ c.args.i _ (omega arith) c.requires.i_value.0 (sym c.is_leading.ensures ∙ c.if-is_leading.false)))

pub returns-else-i-COLUMNS : goal.returns-else-i-COLUMNS
returns-else-i-COLUMNS g c = sym (ap (kept g.K.FieldKind.SIGNED) (sign-last _ _ c.args.i _ (omega arith) c.requires.i_value.0))
