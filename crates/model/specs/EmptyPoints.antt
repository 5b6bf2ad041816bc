-- Document 02, T-06: the promise that no run stands at an empty point.
-- Nothing is assumed of the listing, the states or the tables, whose sizes may differ from call to call: a listing that does not pass and a
-- state that does not meet its claims are turned back, and such a run is not spoken of. Sixteen registers, and bytes, are facts of the types.
use Rattle.std.specs.Prelude.{ℕ, ◌≤◌, ◌<◌, ◌≡◌, Bool, true, false, List, [], ◌∷◌, length}
use Rattle.model.specs.Types.{State, Report, Stopped, Paused, refused_run}
use Rattle.model.specs.Limits.{registers}
use Rattle.model.specs.Listing.{Point, is_empty, point_at, listing_of, points_of}
use Rattle.model.specs.Machine.{sizes_of, Config, config_of, at, steps}
use Rattle.model.specs.Safety.{Call, Sized, ran_on}

-- the run is turned back
abbrev pub turned_back : Report → Bool
turned_back Stopped = false
turned_back Paused = false
turned_back (refused_run r) = true

-- j steps from c lead to a point of the listing, and it is not empty
pub record AwayFromEmpty (ps : List Point) (c : Config) (j : ℕ) : Type 0 where
  pub config : Config
  pub reached : steps ps j (at c) ≡ at config
  pub exists : config.point < length ps
  pub non_empty : is_empty (point_at ps config.point) ≡ false

-- a run from s that is not turned back stands at no empty point, from its first state to the one that it hands back
abbrev pub AvoidsEmpty : List ℕ → State → Call → Type 0
AvoidsEmpty l s k =
    turned_back (ran_on l s k).outcome.report ≡ false →
    (j : ℕ) → j ≤ (ran_on l s k).outcome.steps → AwayFromEmpty (points_of (listing_of l)) (config_of s k.tables) j

-- every call of a list lends tables of bytes
abbrev pub AllLendBytes : List Call → Type 0
AllLendBytes [] = Unit {0}
AllLendBytes (k ∷ ks) = Sized (sizes_of k.tables) k.tables × AllLendBytes ks

-- every run of the list does, each from the state that the one before handed back
abbrev pub AllAvoidEmpty : List ℕ → State → List Call → Type 0
AllAvoidEmpty l s [] = Unit {0}
AllAvoidEmpty l s (k ∷ ks) = AvoidsEmpty l s k × AllAvoidEmpty l (ran_on l s k).outcome.state ks

-- the promise of T-06
abbrev pub EmptyNotReached : Type 0
EmptyNotReached = (l : List ℕ) (s : State) → length s.registers ≡ registers → (calls : List Call) → AllLendBytes calls → AllAvoidEmpty l s calls
