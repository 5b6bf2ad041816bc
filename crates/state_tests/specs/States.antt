-- The state of a run, by its parts.
use Rattle.std.specs.Prelude.{ℕ, List}
use Rattle.model.specs.declared.machine.State.{State}

-- a state from its parts
abbrev pub state : ℕ → List ℕ → State
state p rs = record { point = p; registers = rs }
