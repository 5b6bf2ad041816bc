-- No point that is passed goes back. Assumes nothing.
use native.Mathlib.Numerals.{add-one}
use Rattle.ways_back.proofs.RowEdges.{any_none, none-next, any_found}
use Rattle.ways_back.proofs.back.any_goes_back.Goals as goal

pub loop-p-init : goal.loop-p-init
loop-p-init c = any_none _ _ _

pub returns-then-goes_back : goal.returns-then-goes_back
returns-then-goes_back c = any_found _ _ _ _ c.loop-p-test.true (rw c.instruction_row.ensures at c.if-goes_back.ensures)

pub loop-p-preserved : goal.loop-p-preserved
loop-p-preserved c = rw add-one (none-next _ _ _ _ c.loop-p-test.true c.loop-p.invariant (rw c.instruction_row.ensures at c.if-goes_back.ensures))
