-- Every point that is passed is accepted. Assumes nothing.
use native.Mathlib.Numerals.{add-one}
use Rattle.std.proofs.lemmas.Result.{err_from_is_err_and}
use Rattle.ways_back.proofs.CoveredPoints.{edges_none, edges-accepted, edges-refused}
use Rattle.ways_back.proofs.covered.edges_covered.Goals as goal

pub loop-p-init : goal.loop-p-init
loop-p-init c = edges_none _ _ _

pub returns-in_err-edge_covered : goal.returns-in_err-edge_covered
returns-in_err-edge_covered c =
    let p = err_from_is_err_and c.from_residual.result c.from_residual.ensures.1 in
    rw (p.1, p.2) (edges-refused _ _ _ _ _ c.loop-p-test.true c.loop-p.invariant c.in_err-edge_covered.ensures)

pub loop-p-preserved : goal.loop-p-preserved
loop-p-preserved c = rw add-one (edges-accepted _ _ _ _ c.loop-p-test.true c.loop-p.invariant c.in_ok-edge_covered.ensures)
