-- The loop keeps the marks of the points passed. Assumes nothing.
use Rattle.rows_and_places.specs.Points.{points_in}
use Rattle.ways_back.specs.Covering.{Marked}
use Rattle.ways_back.proofs.back.mark_targets.Given as goal

abbrev pub invariant-loop-p : goal.invariant-loop-p
invariant-loop-p l = Marked l.marks (points_in l.rows l.at l.p)
