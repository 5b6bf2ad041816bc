-- The loop's invariant: the answer so far is that of the columns passed. Assumes nothing.
use Rattle.std.proofs.Common.{◌≡◌, ℕ, get_or}
use Rattle.model.specs.Lists.{every_below}
use Rattle.model.specs.Lines.{printable}
use Rattle.lines.proofs.line.all_printable.Given as goal

abbrev pub invariant-loop-b : goal.invariant-loop-b
invariant-loop-b l = l.ok ≡ every_below (λ (i : ℕ). printable (get_or l.l i 0)) l.b-index
