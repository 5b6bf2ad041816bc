-- The measure is three for each link left, and one more for each of the two calls between. Assumes nothing.
use Rattle.std.proofs.Common.{◌≡◌, ◌+◌, ◌*◌, false, take}
use Rattle.model.specs.Lists.{some}
use Rattle.model.specs.Transfer.{stripe}
use Rattle.model.specs.Follows as Model
use Rattle.goal_search.specs.Goal as Goal
use Rattle.goal_search.specs.Goal.{by_link}
use Rattle.goal_search.proofs.within.+search_linked_through.Given as goal

abbrev pub decreases-search : goal.decreases-search
decreases-search g l = 3 * l.left

abbrev pub decreases-linked : goal.decreases-linked
decreases-linked g l = 3 * l.left + 2

abbrev pub decreases-through : goal.decreases-through
decreases-through g l = 3 * l.left + 1

abbrev pub invariant-linked-loop-l : goal.invariant-linked-loop-l
invariant-linked-loop-l g l = some (by_link (Goal.follows (Model.at_once l.edge.known.now) l.edge.links.now l.left) (stripe l.x l.a l.y l.z l.plus l.minus)) (take l.l-index l.l-items) ≡ false
