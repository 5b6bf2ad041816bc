-- Demand 3 for what the code hands back: every list of runs through either entry, each from the state that the one before handed back.
-- Of a run only what the contract of its entry states is used. The trays are lent to be read, so they are after it what they were before.
use Rattle.std.specs.Prelude.{ℕ, ◌≡◌, true, List, [], ◌∷◌, length, Ok}
use Rattle.model.specs.declared.machine.State.{State}
use Rattle.model.specs.declared.answers.Outcome.{Outcome}
use Rattle.model.specs.Limits.{registers}
use Rattle.model.specs.Listing.{listing_of, points_of}
use Rattle.model.specs.Machine.{lent}
use Rattle.model.specs.Check.{check}
use Rattle.model.specs.Run.{meets_claims, Ran}
use Rattle.model.specs.Safety.{Call, Lends, RunsWell, ran_on}
use Rattle.runner.specs.declared.Ending.{Ending}
use Rattle.run_loop.specs.Runs.{RunByValue}
use Rattle.runner.specs.Runs.{RunInPlace}

-- what an entry hands back: `run` an outcome, `run_in_place` an ending and the state behind the reference
pub data Answer : Type 0 where
  by_value : Outcome → Answer
  in_place : Ending → State → Answer

-- the parts of an answer, whichever entry gave it
abbrev pub outcome_in : Answer → Outcome
outcome_in (by_value o) = o
outcome_in (in_place e s) = record { report = e.report; state = s; steps = e.steps }

-- a run that was made: what it was lent and its budget, its answer, and the bytes of the results when it ended
pub record RunMade : Type 0 where
  pub call : Call
  pub answer : Answer
  pub results : List ℕ

-- all that it handed back
abbrev pub handed_back : RunMade → Ran
handed_back r = record { outcome = outcome_in r.answer; tables = lent r.call.tables.trays r.results }

-- the state that it handed back
abbrev pub state_after : RunMade → State
state_after r = (outcome_in r.answer).state

-- what the contract of each entry states of an answer and the results
abbrev pub Contract : Ran → Answer → List ℕ → Type 0
Contract r (by_value o) rs = RunByValue r o rs
Contract r (in_place e s) rs = RunInPlace r e s rs

-- the run was made from the state s: it lent tables of these sizes, and the contract of its entry holds
pub record MadeFrom (l sizes : List ℕ) (s : State) (r : RunMade) : Type 0 where
  pub lends : Lends sizes r.call
  pub contract : Contract (ran_on l s r.call) r.answer r.results

-- the runs were made in order, each from the state that the one before handed back
abbrev pub MadeInOrder : List ℕ → List ℕ → State → List RunMade → Type 0
MadeInOrder l sizes s [] = Unit {0}
MadeInOrder l sizes s (r ∷ rs) = MadeFrom l sizes s r × MadeInOrder l sizes (state_after r) rs

-- each of them runs well
abbrev pub AllRunWell : List ℕ → List ℕ → State → List RunMade → Type 0
AllRunWell l sizes s [] = Unit {0}
AllRunWell l sizes s (r ∷ rs) = RunsWell (points_of (listing_of l)) sizes s r.call (handed_back r) × AllRunWell l sizes (state_after r) rs

-- the promise
abbrev pub Promise : Type 0
Promise =
    (l : List ℕ) (points : ℕ) → check l ≡ Ok points →
    (sizes : List ℕ) (s : State) → length s.registers ≡ registers → meets_claims (points_of (listing_of l)) s sizes ≡ true →
    (runs : List RunMade) → MadeInOrder l sizes s runs → AllRunWell l sizes s runs
