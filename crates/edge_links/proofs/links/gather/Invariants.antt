-- The links are those among the stripes that are passed, and no more than these. Assumes nothing.
use Rattle.std.proofs.Common.{◌≤◌, length, take}
use Rattle.edge_links.specs.Links.{Gathered}
use Rattle.edge_links.proofs.links.gather.Given as goal

abbrev pub invariant-loop-s : goal.invariant-loop-s
invariant-loop-s l = (length l.links ≤ l.s-index) × Gathered l.links (take l.s-index l.s-items)
