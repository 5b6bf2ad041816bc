-- Every claim before the j-th follows. Assumes nothing.
use Rattle.std.proofs.Common.{◌≡◌, ◌+◌}
use Rattle.model.specs.Follows.{first_lost}
use Rattle.decoded.specs.Decoded.{claims_from}
use Rattle.lost_claims.proofs.lost_judged.Given as goal

abbrev pub invariant-loop-j : goal.invariant-loop-j
invariant-loop-j l = first_lost l.known (l.from + 1) (claims_from l.rows l.from l.j) ≡ 0
