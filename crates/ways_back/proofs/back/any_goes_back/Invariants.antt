-- No point that is passed goes back. Assumes nothing.
use mathlib.Core.Path.{◌≡◌}
use mathlib.Core.Bool.{false}
use Rattle.model.specs.Bound.{any_goes_back}
use Rattle.rows_and_places.specs.Points.{points_in}
use Rattle.ways_back.proofs.back.any_goes_back.Given as goal

abbrev pub invariant-loop-p : goal.invariant-loop-p
invariant-loop-p l = false ≡ any_goes_back (points_in l.rows l.at l.n) l.p
