-- Rows in a list, one for each line.
use Rattle.std.specs.Prelude.{ℕ, List, get_or}
use Rattle.model.specs.declared.text.Word.{Word}
use Rattle.model.specs.declared.text.Word.TheVariants.{Stop}
use Rattle.line_rows.specs.declared.rows.Row.{Row}

-- a row of these numbers
abbrev pub numbers : Word → ℕ → ℕ → ℕ → ℕ → ℕ → ℕ → ℕ → Row
numbers w a b c d e f g = record { word = w; first = a; second = b; third = c; fourth = d; fifth = e; sixth = f; seventh = g }

-- a row that holds nothing
abbrev pub blank : Row
blank = numbers Stop 0 0 0 0 0 0 0

-- the k-th row
abbrev pub row_at : List Row → ℕ → Row
row_at l k = get_or l k blank
