-- It is the test of the variables that are passed. Assumes nothing.
use Rattle.std.proofs.Common.{◌≡◌, ℕ, Bool, List}
use lib.Dec.{leb}
use Rattle.model.specs.declared.claims.Range.{Range}
use Rattle.model.specs.Lists.{every_below}
use Rattle.model.specs.Facts.{lo, hi}
use Rattle.facts.proofs.ranges.Ranges.is_possible.Given as goal

-- the range of a variable has a value
abbrev pub has_value : List Range → ℕ → Bool
has_value rs v = leb (lo rs v) (hi rs v)

abbrev pub invariant-loop-r : goal.invariant-loop-r
invariant-loop-r l = l.every ≡ every_below (has_value l.r-items) l.r-index
