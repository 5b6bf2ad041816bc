-- What was passed is spaces, and does not count. Assumes nothing.
use mathlib.Core.Path.{◌≡◌}
use Rattle.explained.specs.Explanation.{trimmed_to, trimmed_length}
use Rattle.explained.proofs.shown.trimmed.Given as goal

abbrev pub invariant-loop-n : goal.invariant-loop-n
invariant-loop-n l = trimmed_length l.text ≡ trimmed_to l.text l.n
