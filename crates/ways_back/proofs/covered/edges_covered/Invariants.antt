-- Every point that is passed is accepted. Assumes nothing.
use mathlib.Core.Path.{◌≡◌}
use Rattle.model.specs.Types.{accepted}
use Rattle.model.specs.Bound.{edges_covered}
use Rattle.rows_and_places.specs.Points.{points_in}
use Rattle.ways_back.proofs.covered.edges_covered.Given as goal

abbrev pub invariant-loop-p : goal.invariant-loop-p
invariant-loop-p l = accepted ≡ edges_covered (points_in l.rows l.at l.n) l.p
