-- The ranges of the variables that are passed are copied. Assumes nothing.
use Rattle.std.proofs.Common.{◌≡◌, take, length}
use Rattle.model.specs.Limits.{variables}
use Rattle.facts.proofs.ranges.copy.Given as goal

abbrev pub invariant-loop-v : goal.invariant-loop-v
invariant-loop-v l = (length l.to ≡ variables) × (take l.v l.to ≡ take l.v l.from)
