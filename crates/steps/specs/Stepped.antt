-- A step of the code: it keeps the values of all variables in one list, of which the first sixteen are the registers.
use Rattle.std.specs.Prelude.{◌≡◌, ℕ, ◌+◌, ◌<◌, List, take, slice_set}
use Rattle.model.specs.declared.machine.Instruction.{Instruction}
use Rattle.model.specs.Limits.{registers, greatest_points}
use Rattle.model.specs.Machine.{Tables, sizes_of, Config, values_from, error_state, step_of, at, settled}
use Rattle.model.specs.Limited.{Limited}

-- the configuration with the registers among these values
abbrev pub config : ℕ → List ℕ → Tables → Config
config p vs t = record { point = p; registers = take registers vs; tables = t }

-- the values end with the sizes of these tables
abbrev pub ValuesOver : List ℕ → Tables → Type 0
ValuesOver vs t = vs ≡ values_from (take registers vs) (sizes_of t)

-- on to the next point, with the register d holding x
pub record Written (p d x : ℕ) (vs : List ℕ) (p' : ℕ) (vs' : List ℕ) : Type 0 where
  pub point : p' ≡ p + 1
  pub values : vs' ≡ slice_set vs d x

-- on to the next point, with the register q holding x and the register r holding y
pub record WrittenBoth (p q x r y : ℕ) (vs : List ℕ) (p' : ℕ) (vs' : List ℕ) : Type 0 where
  pub point : p' ≡ p + 1
  pub values : vs' ≡ slice_set (slice_set vs q x) r y

-- what a step asks: an instruction within its limits, and that its step is no error
pub record Steppable (i : Instruction) (p : ℕ) (vs : List ℕ) (t : Tables) : Type 0 where
  pub point : p < greatest_points
  pub limited : Limited i
  pub values : ValuesOver vs t
  pub safe : step_of i (config p vs t) ≡ error_state → ⊥

-- what a step gives: the configuration after the machine's step; at STOP the same
pub record Stepped (i : Instruction) (p : ℕ) (vs : List ℕ) (t : Tables) (p' : ℕ) (vs' : List ℕ) (t' : Tables) : Type 0 where
  pub led : at (config p' vs' t') ≡ settled (config p vs t) (step_of i (config p vs t))
  pub values : ValuesOver vs' t'
