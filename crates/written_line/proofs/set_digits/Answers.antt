-- A digit more, or the last. Assumes nothing.
use Rattle.std.proofs.Common.{refl, ◌∙◌, arith}
use lib.ListN.{length-set}
use Rattle.written_line.proofs.ClearedColumns.{no-column, digit-more, digit-last, same-all, same-before}
use Rattle.written_line.proofs.set_digits.Goals as goal

pub loop-i-init : goal.loop-i-init
loop-i-init c = (refl, (λ negative. refl), same-all _ _)

pub returns-then-u-eq0-clause-negative_after : goal.returns-then-u-eq0-clause-negative_after
returns-then-u-eq0-clause-negative_after c negative = digit-last negative _ _ _ _ (omega arith) c.if-u-eq0.true ∙ c.loop-i.invariant.1 negative

pub returns-then-u-eq0-clause-same_before : goal.returns-then-u-eq0-clause-same_before
returns-then-u-eq0-clause-same_before c = same-before _ _ _ _ _ (omega arith) c.loop-i.invariant.2

pub loop-i-preserved : goal.loop-i-preserved
loop-i-preserved c =
    let (long, left, before) = c.loop-i.invariant in
    (rw length-set long, (λ negative. digit-more negative _ _ _ _ (omega arith) (omega (arith, c.if-u-eq0.false)) ∙ left negative), same-before _ _ _ _ _ (omega arith) before)

pub returns-clause-negative_after : goal.returns-clause-negative_after
returns-clause-negative_after c negative = no-column _ _ _ _ _ _ _ (omega arith) ∙ c.loop-i.invariant.1 negative
