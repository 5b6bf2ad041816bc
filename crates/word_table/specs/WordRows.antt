-- What the row of a word asks of its fields, as they are kept.
use Rattle.std.specs.Prelude.{ℕ, Bool, true, not, eqb}
use Rattle.model.specs.declared.text.Word.{Word}
use Rattle.model.specs.declared.text.Word.TheVariants.{Stop, Setc, Copy, Addw, Subw, Mulw, Divf, Load, Stor, Jump, Bltu, Bequ, Leas, Most, Strp, Divm, Turn}
use Rattle.model.specs.Lines.{kind_at}
use Rattle.columns.specs.declared.field.KeptFields.{KeptFields}
use Rattle.columns.specs.Kept.{shape_in, side_by_side}
use Rattle.field_tests.specs.declared.asked.Asked.{Asked}
use Rattle.field_tests.specs.declared.asked.AskedRow.{AskedRow}
use Rattle.field_tests.specs.Asked.{asked_of, row}

-- what a word asks of field j, counted from 0, with the number v
abbrev pub asked_at : Word → KeptFields → ℕ → ℕ → Asked
asked_at w x j v = asked_of (kind_at w j) x.first x.fifth (side_by_side (shape_in x.shapes j) v)

-- whether the registers that a word writes differ: DIVM alone writes two
abbrev pub differ : Word → KeptFields → Bool
differ Stop x = true
differ Setc x = true
differ Copy x = true
differ Addw x = true
differ Subw x = true
differ Mulw x = true
differ Divf x = true
differ Load x = true
differ Stor x = true
differ Jump x = true
differ Bltu x = true
differ Bequ x = true
differ Leas x = true
differ Most x = true
differ Strp x = true
differ Divm x = not (eqb x.first x.third)
differ Turn x = true

-- what a word asks of six fields
abbrev pub asked_row : Word → KeptFields → AskedRow
asked_row w x =
    record (row (asked_at w x 0 x.first) (asked_at w x 1 x.second) (asked_at w x 2 x.third) (asked_at w x 3 x.fourth) (asked_at w x 4 x.fifth) (asked_at w x 5 x.sixth)) {
      differ = differ w x;
    }
