-- Document 02, T-07: the promise for listings that passed within document 01's limits of scales and bounds.
-- Within today's limits more stripes stand: a shift that left the earlier limits may be kept, and MULW adds its stripe for more numbers. So
-- more follows, and nothing that followed is lost.
use Rattle.std.specs.Prelude.{ℕ, ◌≡◌, List}
use Rattle.model.specs.Types.{State, Ok}
use Rattle.model.specs.Limits.{earlier}
use Rattle.model.specs.Listing.{listing_within, listing_of}
use Rattle.model.specs.Machine.{Tables}
use Rattle.model.specs.Check.{check_within, check}
use Rattle.model.specs.Run.{run_within, run}

-- the listing passes with so many points, is read as the same points, instructions and claims as within the earlier limits, and every run of
-- it hands back the same, turned back or not
pub record PassesAlike (l : List ℕ) (points : ℕ) : Type 0 where
  pub passes : check l ≡ Ok points
  pub read : listing_of l ≡ listing_within earlier l
  pub runs : (s : State) (t : Tables) (budget : ℕ) → run l s t budget ≡ run_within earlier l s t budget

-- the promise of T-07: whatever passed within the earlier limits
abbrev pub EarlierPassesStand : Type 0
EarlierPassesStand = (l : List ℕ) (points : ℕ) → check_within earlier l ≡ Ok points → PassesAlike l points
