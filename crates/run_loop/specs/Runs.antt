-- What the loop of a run is handed, and what it hands back.
use Rattle.std.specs.Prelude.{ℕ, ◌≤◌, ◌<◌, ◌≡◌, List, length, get_or}
use Rattle.model.specs.declared.machine.Instruction.{Instruction}
use Rattle.model.specs.declared.machine.Instruction.TheVariants.{Stop}
use Rattle.model.specs.declared.machine.State.{State}
use Rattle.model.specs.declared.answers.Report.{Report}
use Rattle.model.specs.declared.answers.Outcome.{Outcome}
use Rattle.model.specs.Limits.{greatest_points}
use Rattle.model.specs.Listing.{Point, point_at}
use Rattle.model.specs.Run.{Ran}

-- what a run hands back, from its parts
abbrev pub outcome : Report → State → ℕ → Outcome
outcome r s n = record { report = r; state = s; steps = n }

-- there are not too many points, and the code has the instruction of each
pub record Coded (ps : List Point) (code : List Instruction) : Type 0 where
  pub few : length ps ≤ greatest_points
  pub long : length ps ≤ length code
  pub each : (p : ℕ) → p < length ps → get_or code p Stop ≡ (point_at ps p).instruction

-- a run hands back the outcome of the model's run, and the results hold its bytes
pub record RunByValue (r : Ran) (o : Outcome) (rs : List ℕ) : Type 0 where
  pub outcome : o ≡ r.outcome
  pub results : rs ≡ r.tables.results
