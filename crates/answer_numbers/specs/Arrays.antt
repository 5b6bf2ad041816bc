-- The answers as C and Rust have them: lists of numbers.
use Rattle.std.specs.Prelude.{ℕ, List, [], ◌∷◌, Result, Ok, Err}
use Rattle.model.specs.declared.answers.ClaimPart.{ClaimPart}
use Rattle.model.specs.declared.answers.Refusal.{Refusal}
use Rattle.model.specs.Types.{Judgement, Verdict, StepBound}
use Rattle.model.specs.declared.answers.Report.{Report}
use Rattle.model.specs.declared.answers.Report.TheVariants.{Stopped, Paused, Refused as refused_run}
use Rattle.model.specs.Answers.{number_of, place_of, second_place_of}

-- the checker's answer: the number of the refusal, or 0; its place; its second place; the points of a passed listing
abbrev pub answer_of : Verdict → List ℕ
answer_of (Ok n) = 0 ∷ 0 ∷ 0 ∷ n ∷ []
answer_of (Err r) = number_of r ∷ place_of r ∷ second_place_of r ∷ 0 ∷ []

-- the answer for the bound: the number of the refusal, or 0; its place; its second place; the bound
abbrev pub bound_answer : StepBound → List ℕ
bound_answer b = answer_of b

-- the number of the refusal that a judgement gives, or 0
abbrev pub judged_number : Judgement → ℕ
judged_number (Ok u) = 0
judged_number (Err r) = number_of r

-- its place, or 0
abbrev pub judged_place : Judgement → ℕ
judged_place (Ok u) = 0
judged_place (Err r) = place_of r

-- the answer of a call whose refusals have no second place: number and place
abbrev pub judged_answer : Judgement → List ℕ
judged_answer j = judged_number j ∷ judged_place j ∷ []

-- the same, then offset and length of a part
abbrev pub judged_part_answer : Judgement → ℕ → ℕ → List ℕ
judged_part_answer j offset length = judged_number j ∷ judged_place j ∷ offset ∷ length ∷ []

-- the answer for claim lines: number and place, then offset and length of the part. No refusal of that call has a second place
abbrev pub part_answer : Result ClaimPart Refusal → List ℕ
part_answer (Ok c) = 0 ∷ 0 ∷ c.offset ∷ c.length ∷ []
part_answer (Err r) = number_of r ∷ place_of r ∷ 0 ∷ 0 ∷ []

-- how a run ended: 0 stopped, 1 paused, 2 turned back; the number, place and second place of the refusal, or 0; the steps; the point
abbrev pub run_answer : Report → ℕ → ℕ → List ℕ
run_answer Stopped steps point = 0 ∷ 0 ∷ 0 ∷ 0 ∷ steps ∷ point ∷ []
run_answer Paused steps point = 1 ∷ 0 ∷ 0 ∷ 0 ∷ steps ∷ point ∷ []
run_answer (refused_run r) steps point = 2 ∷ number_of r ∷ place_of r ∷ second_place_of r ∷ steps ∷ point ∷ []
