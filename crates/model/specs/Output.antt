-- Document 01, 'Worked listings': the one line of 40 bytes that the program prints.
-- It is a line like those of a listing: a word, six fields and the end of the line.
use Rattle.std.specs.Prelude.{ℕ, cond, List, [], ◌∷◌, replicate, eqb}
use Rattle.model.specs.Types.{Field, Blank, Number, Refusal, Verdict, Ok, Err}
use Rattle.model.specs.Limits.{line_bytes}
use Rattle.model.specs.Text.{space}
use Rattle.model.specs.Words.{bytes}
use Rattle.model.specs.Answers.{number_of, place_of, second_place_of}
use Rattle.model.specs.Lines.{line_set}

-- a second place, blank where there is none
abbrev pub place_field : ℕ → Field
place_field n = cond (eqb n 0) Blank (Number n)

-- the fields of a PASS line: the points in F6
abbrev pub pass_fields : ℕ → List Field
pass_fields n = Blank ∷ Blank ∷ Blank ∷ Blank ∷ Blank ∷ Number n ∷ []

-- the fields of a FAIL line: the number in F1, the second place in F5, the place in F6
abbrev pub fail_fields : Refusal → List Field
fail_fields r = Number (number_of r) ∷ Blank ∷ Blank ∷ Blank ∷ place_field (second_place_of r) ∷ Number (place_of r) ∷ []

-- the printed line of an answer
unfoldable pub printed : Verdict → List ℕ
unfolding line_set
printed (Ok n) = line_set (replicate line_bytes space) (bytes "PASS") (pass_fields n)
printed (Err r) = line_set (replicate line_bytes space) (bytes "FAIL") (fail_fields r)
