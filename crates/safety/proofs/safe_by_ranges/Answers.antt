-- Where an access ends stays below 2^45. Assumes nothing.
use Rattle.std.proofs.Common.{ap, arith}
use Rattle.model.specs.declared.claims.Range.{Range}
use Rattle.model.proofs.Limited.{access-ends-below}
use Rattle.safety.proofs.safe_by_ranges.Goals as goal

pub overflow_add-result-2 : goal.overflow_add-result-2
overflow_add-result-2 c =
    let a = c.args in
    omega (arith, c.scaled.ensures, c.bytes.ensures, access-ends-below a.access.a a.access.i a.access.k c.range.result.hi a.access.w c.requires c.range.ensures.1.high)
