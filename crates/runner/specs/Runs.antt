-- What a run is lent for its code, and what a run in place hands back.
use Rattle.std.specs.Prelude.{ℕ, ◌/◌, ◌≤◌, ◌≡◌, List, Result, Ok, Err}
use Rattle.model.specs.declared.machine.State.{State}
use Rattle.model.specs.declared.answers.Refusal.{Refusal}
use Rattle.model.specs.declared.answers.Report.TheVariants.{Refused as refused_run}
use Rattle.model.specs.declared.answers.Outcome.{Outcome}
use Rattle.model.specs.Limits.{line_bytes, greatest_points}
use Rattle.model.specs.Run.{Ran}
use Rattle.run_loop.specs.Runs.{outcome}
use Rattle.runner.specs.declared.Ending.{Ending}

-- so many instructions have room for the points that a listing of so many bytes can have
abbrev pub CodeRoom : ℕ → ℕ → Type 0
CodeRoom bytes room = (n : ℕ) → n ≤ greatest_points → n ≤ bytes / line_bytes → n ≤ room

-- what is handed back: a run that is turned back hands back the state as it was, with 0 steps
abbrev pub outcome_of : State → Result Outcome Refusal → Outcome
outcome_of s (Ok o) = o
outcome_of s (Err r) = outcome (refused_run r) s 0

-- a run in place hands back what a run does: its report and its steps, the state behind the reference, and the results
pub record RunInPlace (r : Ran) (e : Ending) (s : State) (rs : List ℕ) : Type 0 where
  pub report : e.report ≡ r.outcome.report
  pub steps : e.steps ≡ r.outcome.steps
  pub state : s ≡ r.outcome.state
  pub results : rs ≡ r.tables.results
