-- The loop keeps the range of the claims passed. Assumes nothing.
use Rattle.model.specs.Facts.{facts_of}
use Rattle.decoded.specs.Decoded.{claims_from}
use Rattle.register_claims.proofs.ClaimedRange.{Held}
use Rattle.register_claims.proofs.range.range_at.Given as goal

abbrev pub invariant-loop-j : goal.invariant-loop-j
invariant-loop-j l = Held l.r (facts_of (claims_from l.rows l.from l.j)) l.v
