-- A goal that follows at once follows. Assumes nothing.
use Rattle.std.proofs.Common.{sym, ◌∙◌}
use Rattle.model.specs.Limits.{greatest_links}
use Rattle.goal_search.proofs.FollowsCases.{facts-once}
use Rattle.goals.proofs.follows.goal_follows.Goals as goal

pub returns-then-at_once : goal.returns-then-at_once
returns-then-at_once c = facts-once c.args.known.now c.args.g greatest_links (sym c.at_once.ensures ∙ c.if-at_once.true)
