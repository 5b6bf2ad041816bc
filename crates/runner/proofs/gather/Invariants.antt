-- After p points the code holds their instructions. Assumes nothing.
use mathlib.Core.Path.{◌≡◌}
use lib.ListN.{length}
use Rattle.rows_and_places.specs.Points.{points_in}
use Rattle.run_loop.specs.Runs.{Coded}
use Rattle.runner.proofs.gather.Given as goal

abbrev pub invariant-loop-p : goal.invariant-loop-p
invariant-loop-p l = Coded (points_in l.rows l.at l.p) l.code
