-- The variables that are passed lie in their ranges, or not. Assumes nothing.
use Rattle.std.proofs.Common.{◌≡◌}
use Rattle.model.specs.Lists.{every_below}
use Rattle.state_tests.specs.Meets.{in_own_range}
use Rattle.state_tests.proofs.meets.in_ranges.Given as goal

abbrev pub invariant-loop-v : goal.invariant-loop-v
invariant-loop-v l = l.all ≡ every_below (in_own_range l.values l.f.ranges) l.v
