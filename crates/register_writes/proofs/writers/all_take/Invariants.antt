-- The loop keeps the test of the points passed. Assumes nothing.
use mathlib.Core.Path.{◌≡◌}
use mathlib.Core.Bool.{true}
use Rattle.model.specs.Lists.{every}
use Rattle.model.specs.Bound.{only_takes}
use Rattle.rows_and_places.specs.Points.{points_in}
use Rattle.register_writes.proofs.writers.all_take.Given as goal

abbrev pub invariant-loop-p : goal.invariant-loop-p
invariant-loop-p l = true ≡ every (only_takes l.r) (points_in l.rows l.at l.p)
