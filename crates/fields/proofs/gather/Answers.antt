-- A digit more, or a byte that is none. Assumes nothing.
use Rattle.std.proofs.Common.{◌+◌, sym, ap, ◌∙◌, arith}
use Rattle.model.proofs.Digits.{digits-fit}
use Rattle.columns.specs.Kept.{kept}
use Rattle.columns.proofs.KeptShapes.{signed-kept}
use Rattle.columns.proofs.Shapes.{digit-more, digits-broken, digits_last, number_more}
use Rattle.fields.proofs.gather.Goals as goal

pub returns-then-not-is_digit : goal.returns-then-not-is_digit
returns-then-not-is_digit g c =
    sym (ap (kept g.K.FieldKind.SIGNED) (digits-broken _ _ c.args.negative c.loop-j.j _ (omega arith) c.loop-j.invariant.1 (sym c.is_digit.ensures ∙ c.if-not-is_digit.true)))

pub with_digit-v-requires : goal.with_digit-v-requires
with_digit-v-requires g c =
    let more = number_more _ _ _ c.loop-j.j c.loop-j.invariant.2 in
    let fit = digits-fit g.K.FieldKind.COLUMNS _ _ (c.loop-j.j + 1) (omega arith) in
    rw c.digit.ensures (rw more fit)

pub loop-j-preserved : goal.loop-j-preserved
loop-j-preserved g c =
    let (p, s, d) = c.loop-j.invariant in
    (omega arith, digit-more _ _ c.args.negative c.loop-j.j s (sym c.is_digit.ensures ∙ c.if-not-is_digit.false), rw (c.with_digit-v.ensures, c.digit.ensures) (number_more _ _ _ c.loop-j.j d))

pub returns : goal.returns
returns g c =
    c.signed.ensures
    ∙ signed-kept _ c.args.negative _ c.requires.may
    ∙ ap (kept g.K.FieldKind.SIGNED) (digits_last _ _ c.args.negative _ c.loop-j.j _ (omega arith) c.loop-j.invariant.1 (rw c.number.ensures c.loop-j.invariant.2))
