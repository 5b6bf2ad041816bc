-- After as many turns it is the test of all variables. Assumes nothing.
use Rattle.std.proofs.Common.{◌≡◌, refl, ap, ◌∙◌, add-one, arith}
use Rattle.model.specs.Limits.{variables}
use Rattle.model.specs.Lists.{every_below}
use Rattle.state_tests.specs.Meets.{in_own_range, in_ranges}
use Rattle.state_tests.proofs.meets.in_ranges.Goals as goal

pub loop-v-init : goal.loop-v-init
unfolding every_below
loop-v-init c = refl

pub loop-v-preserved : goal.loop-v-preserved
unfolding every_below
loop-v-preserved c = rw (c.loop-v.invariant, add-one, c.range-r.ensures.0, c.from-n.ensures) refl

pub returns : goal.returns
unfolding in_ranges
returns c =
    let done : c.loop-v.v ≡ variables = omega arith in
    c.loop-v.invariant ∙ ap (every_below (in_own_range c.args.values.now c.args.f.now.ranges)) done
