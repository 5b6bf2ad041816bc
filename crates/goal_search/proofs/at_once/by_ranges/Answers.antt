-- The sum with the low end is one of those that stay below 2^61. Assumes nothing.
use Rattle.std.proofs.Common.{ap, arith}
use Rattle.model.specs.declared.claims.Range.{Range}
use Rattle.model.specs.Facts.{Facts, lo}
use Rattle.facts.proofs.Sums.{sums-below}
use Rattle.goal_search.proofs.at_once.by_ranges.Goals as goal

pub overflow_add-result-2 : goal.overflow_add-result-2
overflow_add-result-2 c =
    let a = c.args in
    omega (arith, ap (λ (r : Range). r.lo) c.get-3.ensures.0, ap (λ (f : Facts). lo f.ranges a.x) c.known.view_is, sums-below a.minus (lo a.known.now.ranges a.x) (omega (arith, c.requires.room.minus)) (omega (arith, c.requires.low)))
