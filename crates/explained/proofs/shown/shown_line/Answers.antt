-- A line within the listing begins 40 bytes for each line before it. Assumes nothing.
use mathlib.Core.Path.{sym, ◌∙◌}
use native.Mathlib.Omega.{arith}
use Rattle.explained.specs.Explanation.{shown_line}
use Rattle.explained.proofs.ShownLine.{no_line, whole-line}
use Rattle.explained.proofs.shown.shown_line.Goals as goal

pub returns-then-line-eq0 : goal.returns-then-line-eq0
unfolding shown_line
returns-then-line-eq0 c = rw c.if-line-eq0.true

pub returns-then-listing-line : goal.returns-then-listing-line
returns-then-listing-line c = rw (no_line _ _ c.if-listing-line.true)

pub returns : goal.returns
returns c = c.shown_from.ensures ∙ sym (whole-line _ _ (omega arith) (omega arith))
