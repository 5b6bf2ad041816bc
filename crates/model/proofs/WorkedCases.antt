-- The worked cases, proved by computation. Assumes nothing.
use Rattle.std.specs.Prelude.{◌≡◌, refl, map}
use Rattle.model.specs.Facts.{facts_of}
use Rattle.model.specs.Transfer.{facts_along}
use Rattle.model.specs.Follows.{lost_along}
use Rattle.model.specs.Check.{points_judged, check_within}
use Rattle.model.specs.Listing.{whole_judged, claim_lines}
use Rattle.model.specs.Output.{printed}
use Rattle.model.specs.Run.{run_within}
use Rattle.model.specs.Writing.{room_for, line_judged, listing_set}
use Rattle.model.specs.Bound.{step_bound}
use Rattle.model.specs.Cases.{table, given, stated}

-- the theorem: every answer is the one stated
pub worked : map given table ≡ map stated table
unfolding facts_of facts_along lost_along points_judged check_within whole_judged printed run_within claim_lines room_for line_judged listing_set step_bound
worked = refl
