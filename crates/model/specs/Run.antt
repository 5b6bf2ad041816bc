-- Document 01, 'Turned back' and 'The runs of demand 3': a run with its budget, refusals 15 to 17, and what it hands back.
-- A run repeats 1 to 14 and 19, then tests 15 for all tables, 16 and 17. A refused run hands back what it was handed, with 0 steps.
use Rattle.std.specs.Prelude.{ℕ, zero, suc, ◌+◌, Bool, ◌&&◌, cond, List, length, leb, ltb}
use Rattle.model.specs.Types.{State, TableLength, ClaimsNotMet, Judgement, accepted, Err, Stopped, Paused, refused_run, Outcome, Ok}
use Rattle.model.specs.Limits.{greatest_size, StripeLimits, today}
use Rattle.model.specs.Lists.{every}
use Rattle.model.specs.Answers.{◌and_then◌}
use Rattle.model.specs.Instructions.{is_stop}
use Rattle.model.specs.Facts.{facts_of, meets}
use Rattle.model.specs.Listing.{Point, point_at, listing_within, points_of, point_exists}
use Rattle.model.specs.Machine.{Tables, Config, sizes_of, config_of, state_of, values_from, Step, next, stopped, error_state, instruction_at, step_of, step_at}
use Rattle.model.specs.Check.{listing_judged_within, check_within}

-- a state 'meets the claims' of its point, over tables of these sizes: the point exists, and the values of all variables meet its facts
unfoldable pub meets_claims : List Point → State → List ℕ → Bool
unfolding meets facts_of
meets_claims ps s sizes =
    ltb s.point (length ps) && meets (values_from s.registers sizes) (facts_of (point_at ps s.point).claims)

-- a table of n bytes is not too long
abbrev pub size_fits : ℕ → Bool
size_fits n = leb n greatest_size

-- 15: no table is too long
abbrev pub tables_fit : List ℕ → Judgement
tables_fit sizes = cond (every size_fits sizes) accepted (Err TableLength)

-- 17: the state meets the claims of its point
abbrev pub claims_met : List Point → State → List ℕ → Judgement
claims_met ps s sizes = cond (meets_claims ps s sizes) accepted (Err ClaimsNotMet)

-- 15 to 17, in order, for a state and tables of these sizes
abbrev pub state_judged : List Point → State → List ℕ → Judgement
state_judged ps s sizes = tables_fit sizes and_then point_exists ps s.point and_then claims_met ps s sizes

-- within these limits of scales and bounds
module _ (L : StripeLimits) where
  -- 1 to 17 and 19, in their order, for a listing, a state and tables of these sizes
  unfoldable pub run_judged_within : List ℕ → State → List ℕ → Judgement
  unfolding listing_within check_within every meets_claims
  run_judged_within l s sizes = listing_judged_within L (listing_within L l) and_then state_judged (points_of (listing_within L l)) s sizes

-- the same within today's limits
abbrev pub run_judged : List ℕ → State → List ℕ → Judgement
run_judged l s sizes = run_judged_within today l s sizes

-- the steps made so far, and where they led
pub record Progress : Type 0 where
  pub steps : ℕ
  pub config : Config

-- so many steps, and where they led
abbrev pub progress : ℕ → Config → Progress
progress n c = record { steps = n; config = c }

-- one step more where the machine makes one; a run that is accepted never meets the error state, by the promise of the chapter Safety
abbrev pub advanced : Progress → Step → Progress
advanced p (next c) = progress (p.steps + 1) c
advanced p stopped = p
advanced p error_state = p

-- the run with a budget
unfoldable pub run_for : List Point → ℕ → Config → Progress
unfolding step_of
run_for ps zero c = progress 0 c
run_for ps (suc n) c = let p = run_for ps n c in advanced p (step_at ps p.config)

-- the configuration stands at STOP
abbrev pub at_stop : List Point → Config → Bool
at_stop ps c = is_stop (instruction_at ps c)

-- what a run hands back: its outcome, and the bytes of the tables
pub record Ran : Type 0 where
  pub outcome : Outcome
  pub tables : Tables

-- 'stopped' where it stands at STOP, else 'paused'
abbrev pub finished : List Point → Progress → Ran
finished ps p = record {
  outcome = record { report = cond (at_stop ps p.config) Stopped Paused; state = state_of p.config; steps = p.steps };
  tables = p.config.tables;
}

-- the run, where nothing turns it back
abbrev pub ran_from : Judgement → List Point → State → Tables → ℕ → Ran
ran_from (Ok u) ps s t budget = finished ps (run_for ps budget (config_of s t))
ran_from (Err r) ps s t budget = record { outcome = record { report = refused_run r; state = s; steps = 0 }; tables = t }

-- within these limits of scales and bounds
module _ (L : StripeLimits) where
  -- a run of a listing from a state over tables with a budget
  unfoldable pub run_within : List ℕ → State → Tables → ℕ → Ran
  unfolding run_judged_within run_for
  run_within l s t budget = ran_from (run_judged_within L l s (sizes_of t)) (points_of (listing_within L l)) s t budget

-- the same within today's limits
abbrev pub run : List ℕ → State → Tables → ℕ → Ran
run l s t budget = run_within today l s t budget
