-- What is kept of the fields of a line: the shape of each and its number side by side. The number of a field that has none is 0.
use Rattle.std.specs.Prelude.{ℕ, zero, suc, ◌+◌, ◌*◌, ◌-◌, ◌/◌, ◌%◌, ◌^◌, Bool, true, false, cond, List, eqb}
use Rattle.model.specs.declared.text.Field.{Field}
use Rattle.model.specs.declared.text.Field.TheVariants.{Blank, Number, Negative, Misshapen}
use Rattle.model.specs.Lines.{field_at}
use Rattle.columns.specs.declared.field.KeptShape.{KeptShape}
use Rattle.columns.specs.declared.field.KeptShape.TheVariants as Shape
use Rattle.columns.specs.declared.field.KeptField.{KeptField}
use Rattle.columns.specs.declared.field.KeptFields.{KeptFields}

-- the number of a shape
abbrev pub number_of : KeptShape → ℕ
number_of Shape.Blank = 0
number_of Shape.Number = 1
number_of Shape.Negative = 2
number_of Shape.Misshapen = 3

-- the shape of a number
abbrev pub shape_at : ℕ → KeptShape
shape_at n = cond (eqb n 0) Shape.Blank (cond (eqb n 1) Shape.Number (cond (eqb n 2) Shape.Negative Shape.Misshapen))

-- the shape of field j, counted from 0, in the number of six
abbrev pub shape_in : ℕ → ℕ → KeptShape
shape_in shapes j = shape_at (shapes / 2 ^ (2 * (5 - j)) % 4)

-- nothing but spaces
abbrev pub is_blank : KeptShape → Bool
is_blank Shape.Blank = true
is_blank Shape.Number = false
is_blank Shape.Negative = false
is_blank Shape.Misshapen = false

-- a number after a minus
abbrev pub is_negative : KeptShape → Bool
is_negative Shape.Blank = false
is_negative Shape.Number = false
is_negative Shape.Negative = true
is_negative Shape.Misshapen = false

-- a shape and a number
abbrev pub side_by_side : KeptShape → ℕ → KeptField
side_by_side s v = record { shape = s; number = v }

-- a field of spaces
abbrev pub blank : KeptField
blank = side_by_side Shape.Blank 0

-- a number, after a minus or not
abbrev pub signed : Bool → ℕ → KeptField
signed negative v = side_by_side (cond negative Shape.Negative Shape.Number) v

-- columns that are neither spaces nor a number
abbrev pub misshapen : KeptField
misshapen = side_by_side Shape.Misshapen 0

-- what is kept of a field, where a minus may stand or not: one that has it where it may not is misshapen
abbrev pub kept : Bool → Field → KeptField
kept may Blank = blank
kept may (Number v) = signed false v
kept may (Negative v) = cond may (signed true v) misshapen
kept may Misshapen = misshapen

-- what is kept of field j, counted from 0: a minus may stand in F6 alone
abbrev pub kept_at : List Field → ℕ → KeptField
kept_at fs j = kept (eqb j 5) (field_at fs j)

-- the shapes of the first n fields in one number, two binary digits each
unfoldable pub shapes_to : List Field → ℕ → ℕ
shapes_to fs zero = 0
shapes_to fs (suc n) = shapes_to fs n * 4 + number_of (kept_at fs n).shape

-- six shapes in one number
abbrev pub packed : KeptShape → KeptShape → KeptShape → KeptShape → KeptShape → KeptShape → ℕ
packed a b c d e f = ((((number_of a * 4 + number_of b) * 4 + number_of c) * 4 + number_of d) * 4 + number_of e) * 4 + number_of f

-- six fields, each kept by itself, as those of a line
abbrev pub six : KeptField → KeptField → KeptField → KeptField → KeptField → KeptField → KeptFields
six a b c d e f =
    record {
      shapes = packed a.shape b.shape c.shape d.shape e.shape f.shape;
      first = a.number;
      second = b.number;
      third = c.number;
      fourth = d.number;
      fifth = e.number;
      sixth = f.number;
    }

-- what is kept of the six fields of a line
unfoldable pub kept_fields : List Field → KeptFields
unfolding shapes_to
kept_fields fs =
    record {
      shapes = shapes_to fs 6;
      first = (kept_at fs 0).number;
      second = (kept_at fs 1).number;
      third = (kept_at fs 2).number;
      fourth = (kept_at fs 3).number;
      fifth = (kept_at fs 4).number;
      sixth = (kept_at fs 5).number;
    }
