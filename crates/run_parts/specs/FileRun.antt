-- What a run makes of the bytes of its files: the run itself, the line that is printed, and what is saved.
use Rattle.std.specs.Prelude.{ℕ, zero, suc, ◌+◌, ◌≡◌, Bool, true, false, ◌||◌, cond, List, Option, Some, None, length, set, replicate, ltb, eqb}
use Rattle.model.specs.declared.answers.Report.{Report}
use Rattle.model.specs.declared.answers.Report.TheVariants.{Stopped, Paused, Refused as refused_run}
use Rattle.model.specs.declared.machine.State.{State}
use Rattle.model.specs.Limits.{greatest_size, registers}
use Rattle.model.specs.Listing.{line_at}
use Rattle.model.specs.Machine.{lent}
use Rattle.model.specs.Run.{Ran, run}
use Rattle.saved.specs.Numbers.{number_in}
use Rattle.saved.specs.States.{state_bytes, target_on, setting_on, saved_in, text_of}
use Rattle.output.specs.RunLine.{answer_line}

-- the steps that a budget allows; none where it is no number
abbrev pub steps_of : Option ℕ → ℕ
steps_of (Some n) = n
steps_of None = 0

-- one register more, where its line gives it a number
abbrev pub with_given : List ℕ → ℕ → Option ℕ → List ℕ
with_given rs v None = rs
with_given rs v (Some c) = set rs v c

-- the first registers as far as the lines of a text give them, the others 0; register v stands on line v + 2
unfoldable pub given_to : List ℕ → ℕ → List ℕ
unfolding setting_on
given_to t zero = replicate registers 0
given_to t (suc v) = with_given (given_to t v) v (setting_on (line_at t (v + 1)) v)

-- point 0 with registers of 0
abbrev pub nowhere : State
nowhere = record { point = 0; registers = replicate registers 0 }

-- the state of a point and the registers that are given
abbrev pub state_at : Option ℕ → List ℕ → State
state_at None rs = nowhere
state_at (Some p) rs = record { point = p; registers = rs }

-- what the lines of a text give of a state, where the text is none
unfoldable pub given_in : List ℕ → State
unfolding target_on given_to
given_in t = cond (eqb (length t) state_bytes) (state_at (target_on (line_at t 0)) (given_to t registers)) nowhere

-- the state that a run begins from: that of a text, and where the text is none, what its lines give
abbrev pub state_of : Option State → List ℕ → State
state_of (Some s) t = s
state_of None t = given_in t

-- the run of a listing over trays and results, from the state of a text, with the budget of an argument
abbrev pub run_of : List ℕ → List ℕ → List ℕ → List ℕ → List ℕ → Ran
run_of listing trays results text amount = run listing (state_of (saved_in text) text) (lent trays results) (steps_of (number_in amount))

-- the line that is printed for a run
abbrev pub line_of : Ran → List ℕ
line_of r = answer_line r.outcome.report r.outcome.state.point r.outcome.steps

-- a run that was made, not turned back
abbrev pub is_made : Report → Bool
is_made Stopped = true
is_made Paused = true
is_made (refused_run r) = false

-- the argument with the file that the refusal of a number is about: the state for 16 and 17, for 15 the trays where these are too long and
-- else the results, and the listing for all others, 1 to 14 and 19
abbrev pub file_of : ℕ → ℕ → ℕ
file_of number trays = cond (eqb number 16 || eqb number 17) 4 (cond (eqb number 15) (cond (ltb greatest_size trays) 2 3) 1)

-- what a run leaves: its report, the bytes of the results, the text of the state, and the line
pub record Leaves (r : Ran) (report : Report) (rs text line : List ℕ) : Type 0 where
  pub told : report ≡ r.outcome.report
  pub results : rs ≡ r.tables.results
  pub state : text ≡ text_of r.outcome.state
  pub answer : line ≡ line_of r

-- what is saved, of a run that was made: the bytes of the results, and the text of the state
pub record Saves (r : Ran) (rs text : List ℕ) : Type 0 where
  pub made : is_made r.outcome.report ≡ true
  pub results : rs ≡ r.tables.results
  pub state : text ≡ text_of r.outcome.state
