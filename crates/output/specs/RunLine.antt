-- The line that the program prints for a run: STOP or PAUS with the point in F1 and the steps in F6, or the checker's FAIL line.
use Rattle.std.specs.Prelude.{ℕ, List, [], ◌∷◌, replicate, Err}
use Rattle.model.specs.declared.text.Field.{Field}
use Rattle.model.specs.declared.text.Field.TheVariants.{Blank, Number}
use Rattle.model.specs.declared.text.Word.TheVariants.{Stop}
use Rattle.model.specs.declared.answers.Report.{Report}
use Rattle.model.specs.declared.answers.Report.TheVariants.{Stopped, Paused, Refused as refused_run}
use Rattle.model.specs.Limits.{line_bytes}
use Rattle.model.specs.Text.{space}
use Rattle.model.specs.Words.{bytes, text_of}
use Rattle.model.specs.Lines.{line_set}
use Rattle.model.specs.Output.{printed}

-- the fields of a run that was made
abbrev pub run_fields : ℕ → ℕ → List Field
run_fields point steps = Number point ∷ Blank ∷ Blank ∷ Blank ∷ Blank ∷ Number steps ∷ []

-- the line of a run that was made
unfoldable pub run_line : List ℕ → ℕ → ℕ → List ℕ
unfolding line_set
run_line word point steps = line_set (replicate line_bytes space) word (run_fields point steps)

-- the line of a report
unfoldable pub answer_line : Report → ℕ → ℕ → List ℕ
unfolding run_line printed
answer_line Stopped point steps = run_line (text_of Stop) point steps
answer_line Paused point steps = run_line (bytes "PAUS") point steps
answer_line (refused_run r) point steps = printed (Err r)
