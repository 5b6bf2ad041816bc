-- The loop's invariant: the bytes passed stand shown at the left of the spaces. Assumes nothing.
use mathlib.Core.Path.{◌≡◌}
use lib.ListN.{drop}
use Rattle.explained.proofs.ShownLine.{shown_to}
use Rattle.explained.proofs.shown.shown_from.Given as goal

abbrev pub invariant-loop-j : goal.invariant-loop-j
invariant-loop-j l = l.text ≡ shown_to (drop l.at l.listing) l.j
