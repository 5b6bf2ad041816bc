-- The loop keeps the test of the points passed. Assumes nothing.
use native.Mathlib.Numerals.{add-one}
use Rattle.std.proofs.lemmas.Result.{err_from_is_err_and}
use Rattle.rows_and_places.proofs.PlacedPoints.{points_none}
use Rattle.reader.proofs.WholeListing.{targets_next, targets_refused}
use Rattle.reader.proofs.whole.targets_exist.Goals as goal

pub loop-p-init : goal.loop-p-init
loop-p-init c = rw points_none

pub returns-in_err-own_target_exists : goal.returns-in_err-own_target_exists
returns-in_err-own_target_exists c =
    let p = err_from_is_err_and c.from_residual.result c.from_residual.ensures.1 in
    let own = rw (c.line_of.ensures, c.instruction_row.ensures) at c.in_err-own_target_exists.ensures in
    rw (p.1, p.2) (targets_refused _ _ _ _ _ c.loop-p-test.true c.loop-p.invariant own)

pub loop-p-preserved : goal.loop-p-preserved
loop-p-preserved c =
    let own = rw (c.line_of.ensures, c.instruction_row.ensures) at c.in_ok-own_target_exists.ensures in
    rw (add-one, targets_next, ← c.loop-p.invariant) own
