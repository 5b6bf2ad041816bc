-- A column more. Assumes nothing.
use Rattle.std.proofs.Common.{◌≡◌, ◌<◌, refl, add-one, arith}
use Rattle.std.proofs.lemmas.List.{get_or-take, length-take}
use Rattle.model.specs.Lists.{every_below}
use Rattle.lines.proofs.line.all_printable.Goals as goal

pub slice_bounds-b-items-end : goal.slice_bounds-b-items-end
slice_bounds-b-items-end c = omega (arith, length-take 39 c.args.l.now)

pub loop-b-init : goal.loop-b-init
unfolding every_below
loop-b-init c = refl

pub loop-b-preserved : goal.loop-b-preserved
unfolding every_below
loop-b-preserved c =
    let passed : c.loop-b.b-index < 39 = omega (arith, length-take 39 c.args.l.now) in
    rw (c.is_printable-ok.ensures, get_or-take 39 c.args.l.now c.loop-b.b-index 0 passed, c.loop-b.invariant, add-one)

pub returns : goal.returns
returns c = let e : c.loop-b.b-index ≡ 39 = omega (arith, length-take 39 c.args.l.now) in rw (← e) c.loop-b.invariant
