-- The digits and then the minus; a minus on 0 is nothing that columns hold. Assumes nothing.
use Rattle.written_line.proofs.ClearedColumns.{minus-on-zero, left-cleared, negative-set}
use native.Mathlib.Omega.{arith}
use Rattle.written_line.proofs.set_negative.Goals as goal

pub set_minus-requires : goal.set_minus-requires
set_minus-requires c =
    (rw c.set_digits-i.auto.s (omega (arith, c.requires.0, c.set_digits-i.ensures.upper_bound)), left-cleared _ _ _ c.requires.1 c.args.v _ _ c.set_digits-i.ensures.upper_bound c.set_digits-i.ensures.negative_after c.set_digits-i.ensures.same_before)

pub returns-then-v-ne0 : goal.returns-then-v-ne0
returns-then-v-ne0 c =
    negative-set _ _ _ c.requires.1 _ _ _ c.set_digits-i.ensures.upper_bound c.set_digits-i.ensures.negative_after c.set_digits-i.ensures.same_before c.if-v-ne0.true _ c.set_minus.ensures

pub returns-else-v-ne0 : goal.returns-else-v-ne0
returns-else-v-ne0 c = minus-on-zero _ _ _ c.requires.1 _ c.if-v-ne0.false
