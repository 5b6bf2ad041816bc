-- Each byte after the spaces decides its law of the shapes. Assumes nothing.
use Rattle.std.proofs.Common.{sym, ◌∙◌}
use borrow.Author.Tests.{eqb-true}
use Rattle.model.proofs.Tests.{and_right}
use Rattle.columns.proofs.KeptShapes.{other-kept, zero-kept}
use Rattle.columns.proofs.Shapes.{leading-digit, minus-first, digit-first, number-first}
use Rattle.fields.proofs.read_number.Goals as goal

pub digit-requires : goal.digit-requires
digit-requires g c = leading-digit _ (sym c.is_leading.ensures ∙ c.if-is_leading.true)

pub gather-requires-clause-i_value : goal.gather-requires-clause-i_value
gather-requires-clause-i_value g c =
    let (e, z, p) = c.requires.i_value in
    (digit-first _ _ c.args.i e (sym c.is_leading.ensures ∙ c.if-is_leading.true), rw (c.first.ensures, c.digit.ensures) (number-first _ _ c.args.i z))

pub read_negative-requires-clause-i_value : goal.read_negative-requires-clause-i_value
read_negative-requires-clause-i_value g c = minus-first _ _ c.args.i c.requires.i_value.0 c.requires.i_value.1 (eqb-true _ _ (and_right _ _ c.if-SIGNED-b.true))

pub returns-then-b-eq48 : goal.returns-then-b-eq48
returns-then-b-eq48 g c =
    let (e, z, p) = c.requires.i_value in
    c.leading_zero.ensures ∙ rw c.COLUMNS.ensures (zero-kept _ _ _ c.args.i _ c.requires.in_bounds.1 e z c.if-b-eq48.true)

pub returns : goal.returns
returns g c =
    let (e, z, p) = c.requires.i_value in
    sym (other-kept _ _ _ c.args.i _ c.requires.in_bounds.1 e z p (sym c.is_leading.ensures ∙ c.if-is_leading.false) (rw c.SIGNED.ensures at c.if-SIGNED-b.false) c.if-b-eq48.false)
