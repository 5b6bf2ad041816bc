-- The row of a word and its six fields. Every field has its number in the same place of the row, whatever the word.
use Rattle.std.specs.Prelude.{List}
use Rattle.model.specs.declared.text.Field.{Field}
use Rattle.model.specs.declared.text.Word.{Word}
use Rattle.model.specs.Lines.{field_at, F1, F2, F3, F5, variable_or_blank, plus_in, minus_in}
use Rattle.line_rows.specs.declared.rows.Row.{Row}
use Rattle.line_rows.specs.Rows.{numbers}

-- the row of a word whose fields are accepted
abbrev pub row_of : Word → List Field → Row
row_of w fs = numbers w (F1 fs) (F2 fs) (F3 fs) (variable_or_blank (field_at fs 3)) (F5 fs) (plus_in (field_at fs 5)) (minus_in (field_at fs 5))
