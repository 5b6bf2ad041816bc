-- The loop keeps the test of the points passed. Assumes nothing.
use mathlib.Core.Path.{sym}
use native.Mathlib.Numerals.{add-one}
use Rattle.register_writes.proofs.RowWrites.{takes_none, takes-next, takes-not}
use Rattle.register_writes.proofs.writers.all_take.Goals as goal

pub loop-p-init : goal.loop-p-init
loop-p-init c = takes_none _ _ _

pub returns-then-not-only_takes : goal.returns-then-not-only_takes
returns-then-not-only_takes c = takes-not _ _ _ _ _ c.loop-p-test.true (sym c.if-not-only_takes.ensures)

pub loop-p-preserved : goal.loop-p-preserved
loop-p-preserved c = rw add-one (takes-next _ _ _ _ c.loop-p.invariant (sym c.if-not-only_takes.ensures))
