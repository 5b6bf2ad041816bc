-- The last byte that is no space ends the text. Assumes nothing.
use mathlib.Core.Path.{◌≡◌, sym, ap, ◌∙◌}
use Prim.Native.Nat.{◌+◌, ◌-◌}
use native.Mathlib.Omega.{arith}
use Rattle.explained.specs.Explanation.{trimmed_to}
use Rattle.explained.proofs.TrimmedText.{space-cut, byte-kept}
use Rattle.explained.proofs.shown.trimmed.Goals as goal

pub returns-then-text-n-ne-SPACE-clause-value : goal.returns-then-text-n-ne-SPACE-clause-value
returns-then-text-n-ne-SPACE-clause-value c =
    let n = c.loop-n.n in
    let e : n - 1 + 1 ≡ n = omega arith in
    e ∙ sym (c.loop-n.invariant ∙ byte-kept c.args.text.now n (omega arith) c.if-text-n-ne-SPACE.true)

pub loop-n-preserved : goal.loop-n-preserved
loop-n-preserved c = c.loop-n.invariant ∙ space-cut c.args.text.now c.loop-n.n (omega arith) c.if-text-n-ne-SPACE.false

pub returns-clause-value : goal.returns-clause-value
unfolding trimmed_to
returns-clause-value c =
    let e : c.loop-n.n ≡ 0 = omega arith in
    sym (c.loop-n.invariant ∙ ap (trimmed_to c.args.text.now) e)
