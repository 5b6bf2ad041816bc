-- A space more. Assumes nothing.
use Rattle.std.proofs.Common.{arith}
use Rattle.columns.proofs.Shapes.{space-more}
use Rattle.columns.proofs.spaces.skip_spaces.Goals as goal

pub loop-i-preserved : goal.loop-i-preserved
loop-i-preserved c =
    let (p, s, d) = c.loop-i.invariant in
    let (e, z) = space-more _ _ c.loop-i.i s d c.if-l-at-ne32.false in
    (omega arith, e, z)
