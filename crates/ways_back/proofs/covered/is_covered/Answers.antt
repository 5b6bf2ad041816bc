-- Each test in turn. Assumes nothing.
use mathlib.Core.Path.{◌≡◌, sym, ap, ◌∙◌}
use mathlib.Core.Bool.{true, false}
use native.Mathlib.Omega.{arith}
use Rattle.model.specs.Instructions.{is_jump}
use Rattle.model.specs.Listing.{Point, point_at}
use Rattle.model.specs.Bound.{is_target, turn_of}
use Rattle.line_rows.specs.declared.rows.Row.{Row}
use Rattle.decoded.specs.Decoded.{instruction_from}
use Rattle.rows_and_places.specs.Points.{points_in}
use Rattle.rows_and_places.proofs.PlacedPoints.{points-at}
use Rattle.ways_back.proofs.CoveredPoints.{not_taken, no_jump, targeted, by-write}
use Rattle.ways_back.proofs.covered.is_covered.Goals as goal

pub returns-in-None : goal.returns-in-None
returns-in-None c = not_taken (points_in c.args.rows.now c.args.at.now c.args.n) c.args.p _ (sym c.in-None.is ∙ c.requires.covering.taken)

pub returns-then-not-is_jump : goal.returns-then-not-is_jump
returns-then-not-is_jump c =
    let here = points-at c.args.rows.now c.args.at.now c.args.n c.args.p c.requires.all_placed.1 in
    no_jump (points_in c.args.rows.now c.args.at.now c.args.n) c.args.p _
    (ap (λ (q : Point). is_jump q.instruction) here ∙ ap (λ (r : Row). is_jump (instruction_from r)) (sym c.instruction_row.ensures) ∙ sym c.if-not-is_jump.ensures)

pub returns-then-marks-p : goal.returns-then-marks-p
returns-then-marks-p c =
    targeted (points_in c.args.rows.now c.args.at.now c.args.n) c.args.p _
    (sym (c.requires.covering.marked.each c.args.p (omega (arith, c.requires.all_placed.0.few, c.requires.all_placed.1))) ∙ c.if-marks-p.true)

pub returns-else-marks-p : goal.returns-else-marks-p
returns-else-marks-p c =
    let ps = points_in c.args.rows.now c.args.at.now c.args.n in
    let here = points-at c.args.rows.now c.args.at.now c.args.n c.args.p c.requires.all_placed.1 in
    let jump : is_jump (point_at ps c.args.p).instruction ≡ true = ap (λ (q : Point). is_jump q.instruction) here ∙ ap (λ (r : Row). is_jump (instruction_from r)) (sym c.instruction_row.ensures) ∙ sym c.if-not-is_jump.ensures in
    let none : is_target ps c.args.p ≡ false = sym (c.requires.covering.marked.each c.args.p (omega (arith, c.requires.all_placed.0.few, c.requires.all_placed.1))) ∙ c.if-marks-p.false in
    c.written_before.ensures ∙ by-write ps c.args.p (turn_of ps) _ (sym c.in-Some.is ∙ c.requires.covering.taken) jump none
