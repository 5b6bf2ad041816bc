-- The loop keeps the test of the points passed. Assumes nothing.
use mathlib.Core.Path.{◌≡◌}
use Rattle.model.specs.Types.{accepted}
use Rattle.model.specs.Listing.{all_targets_exist}
use Rattle.rows_and_places.specs.Points.{points_in}
use Rattle.reader.proofs.whole.targets_exist.Given as goal

abbrev pub invariant-loop-p : goal.invariant-loop-p
invariant-loop-p l = accepted ≡ all_targets_exist l.n (points_in l.rows l.at l.p)
