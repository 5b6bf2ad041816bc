-- The loop keeps the marks of the points passed. Assumes nothing.
use native.Mathlib.Omega.{arith}
use native.Mathlib.Numerals.{add-one}
use Rattle.ways_back.proofs.TargetMarks.{marked-none, marked_next}
use Rattle.ways_back.proofs.back.mark_targets.Goals as goal

pub loop-p-init : goal.loop-p-init
loop-p-init c = marked-none _ _ _ c.requires.none_marked

pub mark-requires : goal.mark-requires
mark-requires c t e =
    let h = c.requires.holds in
    let few = h.all.few in
    let one = h.target _ t c.loop-p-test.true (rw c.instruction_row.ensures at e) in
    omega arith

pub loop-p-preserved : goal.loop-p-preserved
loop-p-preserved c = rw (add-one, c.mark.ensures, c.instruction_row.ensures) (marked_next _ _ _ _ c.loop-p.invariant)
