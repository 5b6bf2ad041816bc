-- The row of what is kept of fields that are in shape is the row of the fields. Assumes nothing.
use Prim.Native.Nat.{ℕ, ◌/◌, ◌%◌}
use native.Mathlib.Omega.{arith}
use mathlib.Core.Path.{◌≡◌, refl}
use mathlib.Core.Bool.{true, false, cond}
use mathlib.Core.List.{List}
use Rattle.model.specs.declared.text.Field.{Field}
use Rattle.model.specs.declared.text.Field.TheVariants.{Blank, Number, Negative, Misshapen}
use Rattle.model.specs.declared.text.Word.{Word}
use Rattle.model.specs.Limits.{blank_variable}
use Rattle.model.specs.Lines.{field_at, kind_at, in_shape, variable_or_blank, plus_in, minus_in}
use Rattle.model.proofs.Tests.{every-below}
use Rattle.columns.specs.declared.field.KeptFields.{KeptFields}
use Rattle.columns.specs.declared.field.KeptShape.{KeptShape}
use Rattle.columns.specs.Kept.{shape_in, is_blank, is_negative, kept, kept_fields}
use Rattle.columns.proofs.KeptShapes.{shape-of-six}
use Rattle.word_table.proofs.KeptNumbers.{unsigned, unsigned-kinds, blank-or-number, field-shaped, number-kept}
use Rattle.line_rows.specs.Rows.{numbers}
use Rattle.encoded.specs.Encoded.{row_of}

plus-kept : (f : Field) → cond (is_negative (kept true f).shape) 0 (kept true f).number ≡ plus_in f
plus-kept Blank = refl
plus-kept (Number v) = refl
plus-kept (Negative v) = refl
plus-kept Misshapen = refl

minus-kept : (f : Field) → cond (is_negative (kept true f).shape) (kept true f).number 0 ≡ minus_in f
minus-kept Blank = refl
minus-kept (Number v) = refl
minus-kept (Negative v) = refl
minus-kept Misshapen = refl

pub row_kept : (w : Word) (fs : List Field) (x : KeptFields) → x ≡ kept_fields fs → in_shape w fs ≡ true → {d f g : ℕ} {s t : KeptShape}
    → s ≡ shape_in x.shapes 3 → t ≡ shape_in x.shapes 5
    → d ≡ cond (is_blank s) blank_variable x.fourth → f ≡ cond (is_negative t) 0 x.sixth → g ≡ cond (is_negative t) x.sixth 0
    → numbers w x.first x.second x.third d x.fifth f g ≡ row_of w fs
unfolding kept_fields
row_kept w fs x e h p q a b c =
    let variable =
    blank-or-number (λ (y : Field). cond (is_blank (kept false y).shape) blank_variable (kept false y).number ≡ variable_or_blank y) (kind_at w 3) (field_at fs 3)
    (every-below (λ (i : ℕ). unsigned (kind_at w i)) 5 (unsigned-kinds w) 3 (omega arith)) (field-shaped w fs h 3 (omega arith)) refl (λ v. refl) in
    rw (
      a,
      b,
      c,
      p,
      q,
      e,
      shape-of-six fs 3 (omega arith),
      shape-of-six fs 5 (omega arith),
      variable,
      plus-kept (field_at fs 5),
      minus-kept (field_at fs 5),
      number-kept w fs h 0 (omega arith),
      number-kept w fs h 1 (omega arith),
      number-kept w fs h 2 (omega arith),
      number-kept w fs h 4 (omega arith),
    )
