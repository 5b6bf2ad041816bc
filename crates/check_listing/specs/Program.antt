-- What the program makes of what it has read.
-- After the bytes that were read it asks for one more: there is more or not, or reading failed.
use Rattle.std.specs.Prelude.{ℕ, ◌≡◌, Bool, true, false, cond, List, [], Result, Ok, Err}
use Rattle.model.specs.declared.answers.Refusal.{Refusal}
use Rattle.model.specs.Types.{Judgement, accepted}
use Rattle.model.specs.Check.{check}
use Rattle.model.specs.Output.{printed}
use Rattle.model.specs.Bound.{step_bound}
use Rattle.output.specs.BoundLine.{bound_line}
use Rattle.check_listing.specs.declared.Told.{Told}

-- the listing that is judged: the bytes where the input ended after them, else an empty one
abbrev pub input_listing : {E : Type 0} → List ℕ → Result Bool E → List ℕ
input_listing s (Ok false) = s
input_listing s (Ok true) = []
input_listing s (Err e) = []

-- whether an answer for a listing, its points or its bound, turns it back
abbrev pub judged : {A : Type 0} → Result A Refusal → Judgement
judged (Ok n) = accepted
judged (Err r) = Err r

-- the line that is printed: that of the bound where the steps are asked for, else the checker's
abbrev pub line_of : Bool → List ℕ → List ℕ
line_of steps s = cond steps (bound_line (step_bound s)) (printed (check s))

-- what is explained
abbrev pub judged_of : Bool → List ℕ → Judgement
judged_of steps s = cond steps (judged (step_bound s)) (judged (check s))

-- both of a listing
pub record Tells (a : Told) (steps : Bool) (s : List ℕ) : Type 0 where
  pub line : a.line ≡ line_of steps s
  pub judgement : a.judgement ≡ judged_of steps s
