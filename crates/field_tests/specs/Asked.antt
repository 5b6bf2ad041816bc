-- What a row of the table of the words asks of a field: its shape, and whether its number is allowed. A word with its fields is judged by what its row asks of all six.
use Rattle.std.specs.Prelude.{ℕ, Bool, true, not, ◌&&◌, cond, eqb, Err}
use Rattle.model.specs.declared.text.Content.{Content}
use Rattle.model.specs.declared.text.Kind.{Kind}
use Rattle.model.specs.declared.text.Kind.TheVariants.{Empty, Plain, Optional, Signed}
use Rattle.model.specs.declared.answers.Refusal.TheVariants.{FieldShape, NumberLimits, SameRegister}
use Rattle.model.specs.Types.{Judgement, accepted}
use Rattle.model.specs.Limits.{today}
use Rattle.model.specs.Words.{within}
use Rattle.columns.specs.declared.field.KeptField.{KeptField}
use Rattle.columns.specs.declared.field.KeptShape.{KeptShape}
use Rattle.columns.specs.declared.field.KeptShape.TheVariants as Shape
use Rattle.columns.specs.Kept.{is_blank, is_negative, packed}
use Rattle.field_tests.specs.declared.asked.Asked.{Asked}
use Rattle.field_tests.specs.declared.asked.AskedRow.{AskedRow}

-- a shape that is due, and whether the number is allowed
abbrev pub ask : KeptShape → Bool → Asked
ask s a = record { shape = s; allowed = a }

-- a number, as a content asks for it that looks at no other field
abbrev pub number_as : Content → ℕ → Asked
number_as c v = ask Shape.Number (within today c 0 0 v)

-- the shape that is due of a number that may have a minus, but not on 0
abbrev pub signed_shape : KeptShape → ℕ → KeptShape
signed_shape s v = cond (is_negative s && not (eqb v 0)) Shape.Negative Shape.Number

-- what a kind asks of a field that is kept so; f1 and f5 are the numbers kept of the line's F1 and F5
unfoldable pub asked_of : Kind → ℕ → ℕ → KeptField → Asked
unfolding within
asked_of Empty f1 f5 x = ask Shape.Blank true
asked_of (Plain c) f1 f5 x = ask Shape.Number (within today c f1 f5 x.number)
asked_of (Optional c) f1 f5 x = cond (is_blank x.shape) (ask Shape.Blank true) (ask Shape.Number (within today c f1 f5 x.number))
asked_of (Signed c) f1 f5 x = ask (signed_shape x.shape x.number) (within today c f1 f5 x.number)

-- what six fields are asked, as one, where no two registers are written
abbrev pub row : Asked → Asked → Asked → Asked → Asked → Asked → AskedRow
row a b c d e f =
    record {
      shapes = packed a.shape b.shape c.shape d.shape e.shape f.shape;
      allowed = a.allowed && b.allowed && c.allowed && d.allowed && e.allowed && f.allowed;
      differ = true;
    }

-- six shapes judged by what is asked of their fields
abbrev pub row_judged : ℕ → ℕ → AskedRow → Judgement
row_judged place shapes r =
    cond (eqb shapes r.shapes) (cond r.allowed (cond r.differ accepted (Err (SameRegister place))) (Err (NumberLimits place))) (Err (FieldShape place))
