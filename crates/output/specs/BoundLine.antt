-- The line that the program prints for a bound: STEP with the bound in F6, or the checker's FAIL line.
use Rattle.std.specs.Prelude.{ℕ, List, replicate, Err, Ok}
use Rattle.model.specs.Types.{StepBound}
use Rattle.model.specs.Limits.{line_bytes}
use Rattle.model.specs.Text.{space}
use Rattle.model.specs.Words.{bytes}
use Rattle.model.specs.Lines.{line_set}
use Rattle.model.specs.Output.{pass_fields, printed}

-- the line of a bound, or of what turns the call back
unfoldable pub bound_line : StepBound → List ℕ
unfolding line_set printed
bound_line (Ok n) = line_set (replicate line_bytes space) (bytes "STEP") (pass_fields n)
bound_line (Err r) = printed (Err r)
