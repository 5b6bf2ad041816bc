-- Document 01, 'The runs of demand 3': the promise over every list of runs of a passed listing.
-- Only what a caller can see is assumed: the listing passes, the first state meets the claims of its point over tables of some sizes,
-- and each call lends tables of these sizes with any budget. Sixteen registers, and bytes below 256, are facts of the types.
use Rattle.std.specs.Prelude.{ℕ, ◌<◌, ◌≤◌, ◌≡◌, true, false, List, [], ◌∷◌, length, get_or}
use Rattle.model.specs.Types.{Table, State, Ok, Report, Stopped, Paused, refused_run}
use Rattle.model.specs.Limits.{registers, MAX}
use Rattle.model.specs.Listing.{Point, listing_of, points_of}
use Rattle.model.specs.Machine.{Tables, table_of, sizes_of, Config, config_of, state_of, error_state, step_at, at, steps}
use Rattle.model.specs.Check.{check}
use Rattle.model.specs.Run.{meets_claims, at_stop, Ran, run}

-- what a call of the runner is lent besides the listing and the state, and its budget
pub record Call : Type 0 where
  pub tables : Tables
  pub budget : ℕ

-- tables of these sizes whose elements are bytes
pub record Sized (sizes : List ℕ) (t : Tables) : Type 0 where
  pub size : sizes_of t ≡ sizes
  pub byte : (b : Table) (i : ℕ) → get_or (table_of b t) i 0 < 256

-- the call lends tables of these sizes, with a budget of at most MAX
pub record Lends (sizes : List ℕ) (k : Call) : Type 0 where
  pub tables : Sized sizes k.tables
  pub budget : k.budget ≤ MAX

-- every call of a list does
abbrev pub AllLend : List ℕ → List Call → Type 0
AllLend sizes [] = Unit {0}
AllLend sizes (k ∷ ks) = Lends sizes k × AllLend sizes ks

-- a run 'halted' after k of the steps that it makes from c₀: no error led there, the claims of its point are met, the trays are as lent,
-- the tables keep their sizes, the next step is not the error state, and before the last step it does not stand at STOP
pub record HaltedWell (ps : List Point) (sizes : List ℕ) (c₀ : Config) (made k : ℕ) : Type 0 where
  pub config : Config
  pub reached : steps ps k (at c₀) ≡ at config
  pub claims : meets_claims ps (state_of config) sizes ≡ true
  pub trays : config.tables.trays ≡ c₀.tables.trays
  pub size : sizes_of config.tables ≡ sizes
  pub safe : step_at ps config ≡ error_state → ⊥
  pub going : k < made → at_stop ps config ≡ false

-- how a run may end: stopped at STOP within its budget, or paused elsewhere with exactly its budget made; never turned back
abbrev pub EndedWell : List Point → Config → ℕ → ℕ → Report → Type 0
EndedWell ps c made budget Stopped = (at_stop ps c ≡ true) × (made ≤ budget)
EndedWell ps c made budget Paused = (at_stop ps c ≡ false) × (made ≡ budget)
EndedWell ps c made budget (refused_run r) = ⊥

-- one run of the list, from the state s: r is what it hands back
pub record RunsWell (ps : List Point) (sizes : List ℕ) (s : State) (k : Call) (r : Ran) : Type 0 where
  pub ended : EndedWell ps (config_of r.outcome.state r.tables) r.outcome.steps k.budget r.outcome.report
  pub halted : (j : ℕ) → j ≤ r.outcome.steps → HaltedWell ps sizes (config_of s k.tables) r.outcome.steps j
  pub handed_back : steps ps r.outcome.steps (at (config_of s k.tables)) ≡ at (config_of r.outcome.state r.tables)

-- what the runner makes of a call
abbrev pub ran_on : List ℕ → State → Call → Ran
ran_on l s k = run l s k.tables k.budget

-- every run of the list, each from the state that the one before handed back
abbrev pub Kept : List ℕ → List ℕ → State → List Call → Type 0
Kept l sizes s [] = Unit {0}
Kept l sizes s (k ∷ ks) = RunsWell (points_of (listing_of l)) sizes s k (ran_on l s k) × Kept l sizes (ran_on l s k).outcome.state ks

-- demand 3
abbrev pub Safety : Type 0
Safety =
    (l : List ℕ) (points : ℕ) → check l ≡ Ok points →
    (sizes : List ℕ) (s : State) → length s.registers ≡ registers → meets_claims (points_of (listing_of l)) s sizes ≡ true →
    (calls : List Call) → AllLend sizes calls → Kept l sizes s calls
