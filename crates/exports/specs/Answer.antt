-- What a run hands back through C: registers or a state, the bytes of the results, and the numbers of the answer.
use Rattle.std.specs.Prelude.{ℕ, ◌≡◌, List}
use Rattle.model.specs.declared.machine.State.{State}
use Rattle.model.specs.Run.{Ran}
use Rattle.answer_numbers.specs.Arrays.{run_answer}

-- the registers, the results and the answer hold what the run hands back
pub record RunAnswered (r : Ran) (rs bytes numbers : List ℕ) : Type 0 where
  pub registers : rs ≡ r.outcome.state.registers
  pub results : bytes ≡ r.tables.results
  pub answer : numbers ≡ run_answer r.outcome.report r.outcome.steps r.outcome.state.point

-- the same with the state behind the reference in place of the registers
pub record RunAnsweredInPlace (r : Ran) (s : State) (bytes numbers : List ℕ) : Type 0 where
  pub state : s ≡ r.outcome.state
  pub results : bytes ≡ r.tables.results
  pub answer : numbers ≡ run_answer r.outcome.report r.outcome.steps r.outcome.state.point
