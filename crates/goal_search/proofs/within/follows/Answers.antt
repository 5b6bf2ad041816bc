-- By the links among the stripes it follows from what is known. Assumes nothing.
use Rattle.std.proofs.Common.{◌∙◌}
use Rattle.model.specs.Transfer.{stripe}
use Rattle.goal_search.proofs.GatheredLinks.{follows-agrees}
use Rattle.goal_search.proofs.within.follows.Goals as goal

pub returns-clause-gathered : goal.returns-clause-gathered
returns-clause-gathered c gathered =
    let a = c.args in
    c.search.ensures ∙ follows-agrees a.edge.now.known.now a.edge.now.links.now gathered a.left (stripe a.x a.a a.y a.z a.plus a.minus)
