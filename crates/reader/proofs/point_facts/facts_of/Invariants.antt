-- The facts are those of the claims that are passed. Assumes nothing.
use Rattle.std.proofs.Common.{◌≡◌}
use Rattle.model.specs.Facts.{facts_of}
use Rattle.decoded.specs.Decoded.{claims_from}
use Rattle.reader.proofs.point_facts.facts_of.Given as goal

abbrev pub invariant-loop-j : goal.invariant-loop-j
invariant-loop-j l = l.facts ≡ facts_of (claims_from l.rows l.from l.j)
