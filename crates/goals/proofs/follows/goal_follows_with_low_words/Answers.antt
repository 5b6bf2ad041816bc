-- A goal that follows at once follows. Assumes nothing.
use Rattle.std.proofs.Common.{sym, ◌∙◌}
use Rattle.model.specs.Limits.{greatest_links}
use Rattle.goal_search.proofs.FollowsCases.{facts-once}
use Rattle.goals.proofs.follows.goal_follows_with_low_words.Goals as goal

pub returns-then-at_once_with_low_word : goal.returns-then-at_once_with_low_word
returns-then-at_once_with_low_word c = facts-once c.args.known.now c.args.g greatest_links (sym c.at_once_with_low_word.ensures ∙ c.if-at_once_with_low_word.true)
