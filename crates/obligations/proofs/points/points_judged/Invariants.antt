-- Every point that is passed is accepted. Assumes nothing.
use Rattle.std.proofs.Common.{◌≡◌}
use Rattle.model.specs.Types.{accepted}
use Rattle.model.specs.Limits.{today}
use Rattle.model.specs.Check.{points_judged}
use Rattle.rows_and_places.specs.Points.{points_in}
use Rattle.obligations.proofs.points.points_judged.Given as goal

abbrev pub invariant-loop-p : goal.invariant-loop-p
invariant-loop-p l = points_judged today (points_in l.rows l.at l.n) l.p ≡ accepted
