-- A word with its fields is judged by what its row asks of them. Assumes nothing.
use Prim.Native.Nat.{ℕ, zero, suc, ◌+◌, ◌*◌, ◌/◌, ◌%◌, ◌<◌}
use native.Mathlib.Omega.{arith}
use mathlib.Core.Path.{◌≡◌, refl, sym, ap, subst, ◌∙◌}
use mathlib.Core.Bool.{Bool, true, false, not, ◌&&◌, ◌||◌, cond, false≢true}
use mathlib.Core.List.{List, [], ◌∷◌, map}
use lib.ListN.{get_or}
use lib.Dec.{eqb}
use borrow.Author.Tests.{eqb-true, eqb-false, eq-eqb, ne_eqb}
use Rattle.model.specs.declared.text.Field.{Field}
use Rattle.model.specs.declared.text.Field.TheVariants.{Blank, Number, Negative, Misshapen}
use Rattle.model.specs.declared.text.Kind.{Kind}
use Rattle.model.specs.declared.text.Kind.TheVariants.{Empty, Plain, Optional, Signed}
use Rattle.model.specs.declared.text.Word.{Word}
use Rattle.model.specs.declared.text.Word.TheVariants.{Stop, Setc, Copy, Addw, Subw, Mulw, Divf, Load, Stor, Jump, Bltu, Bequ, Leas, Most, Strp, Divm, Turn}
use Rattle.std.specs.Prelude.{Some}
use Rattle.model.specs.Types.{Judgement}
use Rattle.model.specs.Limits.{today}
use Rattle.model.specs.Lists.{every_below}
use Rattle.model.specs.Text.{value_in}
use Rattle.model.specs.Words.{fields_of, shaped, allowed, within}
use Rattle.model.specs.Lines.{field_at, kind_at, F1, F3, F5, in_shape, in_limits, registers_differ, judged}
use Rattle.model.proofs.Tests.{every-below}
use Rattle.columns.specs.declared.field.KeptField.{KeptField}
use Rattle.columns.specs.declared.field.KeptFields.{KeptFields}
use Rattle.columns.specs.declared.field.KeptShape.{KeptShape}
use Rattle.columns.specs.declared.field.KeptShape.TheVariants as Shape
use Rattle.columns.specs.Kept.{number_of, shape_at, is_blank, packed, kept, kept_at, shapes_to, side_by_side, kept_fields}
use Rattle.columns.proofs.KeptShapes.{number-small, shape-of-six}
use Rattle.field_tests.specs.declared.asked.Asked.{Asked}
use Rattle.field_tests.specs.declared.asked.AskedRow.{AskedRow}
use Rattle.field_tests.specs.Asked.{ask, asked_of, row, row_judged}
use Rattle.word_table.specs.WordRows.{differ, asked_row}
use Rattle.word_table.proofs.KeptNumbers.{unsigned, unsigned-kinds, field-shaped, number-kept}

-- tests that agree on every number below n
below-same : (p q : ℕ → Bool) (n : ℕ) → ((j : ℕ) → j < n → p j ≡ q j) → every_below p n ≡ every_below q n
unfolding every_below
below-same p q zero h = refl
below-same p q (suc n) h = rw (below-same p q n (λ j k. h j (omega arith)), h n (omega arith))

-- a blank is kept as one
blank-kept : (may : Bool) (f : Field) → is_blank (kept may f).shape ≡ shaped Empty f
unfolding shaped
blank-kept may Blank = refl
blank-kept may (Number v) = refl
blank-kept true (Negative v) = refl
blank-kept false (Negative v) = refl
blank-kept may Misshapen = refl

-- two numbers made of shapes are the same where their last shapes are, and what stands before these
last-same : (a b k d : ℕ) → k < 4 → d < 4 → eqb (a * 4 + k) (b * 4 + d) ≡ (eqb a b && eqb k d)
last-same a b k d h g = go (eqb a b) (eqb k d) refl refl
  where
    go : (p q : Bool) → eqb a b ≡ p → eqb k d ≡ q → eqb (a * 4 + k) (b * 4 + d) ≡ (p && q)
    go true true e f = eq-eqb (a * 4 + k) (b * 4 + d) (omega (arith, eqb-true a b e, eqb-true k d f))
    go true false e f = ne_eqb (a * 4 + k) (b * 4 + d) (λ m. eqb-false k d f (omega (arith, m, eqb-true a b e)))
    go false q e f = ne_eqb (a * 4 + k) (b * 4 + d) (λ m. eqb-false a b e (omega (arith, m)))

-- two shapes are the same where their numbers are
abbrev same_shape : KeptShape → KeptShape → Bool
same_shape s t = eqb (number_of s) (number_of t)

-- the shapes that are due, of the first n fields
due_to : (ℕ → Asked) → ℕ → ℕ
due_to at zero = 0
due_to at (suc n) = due_to at n * 4 + number_of (at n).shape

due-same : (fs : List Field) (at : ℕ → Asked) (n : ℕ) → eqb (shapes_to fs n) (due_to at n) ≡ every_below (λ (j : ℕ). same_shape (kept_at fs j).shape (at j).shape) n
unfolding every_below shapes_to due_to
due-same fs at zero = refl
due-same fs at (suc n) =
    last-same (shapes_to fs n) (due_to at n) (number_of (kept_at fs n).shape) (number_of (at n).shape) (number-small (kept_at fs n).shape) (number-small (at n).shape)
    ∙ ap (λ (b : Bool). b && same_shape (kept_at fs n).shape (at n).shape) (due-same fs at n)

-- a field is in shape where the shape that is kept of it is due
kept-shape : (may : Bool) (k : Kind) (f1 f5 : ℕ) (f : Field) → (may ≡ false → unsigned k ≡ true) → same_shape (kept may f).shape (asked_of k f1 f5 (kept may f)).shape ≡ shaped k f
unfolding asked_of shaped
kept-shape may Empty f1 f5 Blank u = refl
kept-shape may Empty f1 f5 (Number v) u = refl
kept-shape true Empty f1 f5 (Negative v) u = refl
kept-shape false Empty f1 f5 (Negative v) u = refl
kept-shape may Empty f1 f5 Misshapen u = refl
kept-shape may (Plain c) f1 f5 Blank u = refl
kept-shape may (Plain c) f1 f5 (Number v) u = refl
kept-shape true (Plain c) f1 f5 (Negative v) u = refl
kept-shape false (Plain c) f1 f5 (Negative v) u = refl
kept-shape may (Plain c) f1 f5 Misshapen u = refl
kept-shape may (Optional c) f1 f5 Blank u = refl
kept-shape may (Optional c) f1 f5 (Number v) u = refl
kept-shape true (Optional c) f1 f5 (Negative v) u = refl
kept-shape false (Optional c) f1 f5 (Negative v) u = refl
kept-shape may (Optional c) f1 f5 Misshapen u = refl
kept-shape may (Signed c) f1 f5 Blank u = refl
kept-shape may (Signed c) f1 f5 (Number v) u = refl
kept-shape true (Signed c) f1 f5 (Negative v) u = go (eqb v 0)
  where
    go : (b : Bool) → same_shape Shape.Negative (cond (not b) Shape.Negative Shape.Number) ≡ not b
    go true = refl
    go false = refl
kept-shape false (Signed c) f1 f5 (Negative v) u = absurd (false≢true (u refl))
kept-shape may (Signed c) f1 f5 Misshapen u = refl

-- a field in shape is within its limits where the number that is kept of it is allowed
field-allowed : (k : Kind) (f1 f5 : ℕ) (f : Field) (x : KeptField) → shaped k f ≡ true → is_blank x.shape ≡ shaped Empty f → x.number ≡ value_in f → (asked_of k f1 f5 x).allowed ≡ allowed today k f1 f5 f
unfolding asked_of allowed
field-allowed Empty f1 f5 f x e b n = refl
field-allowed (Plain c) f1 f5 f x e b n = rw n
field-allowed (Optional c) f1 f5 f x e b n = rw (b, n) (go (shaped Empty f))
  where
    go : (t : Bool) → (cond t (ask Shape.Blank true) (ask Shape.Number (within today c f1 f5 (value_in f)))).allowed ≡ (t || within today c f1 f5 (value_in f))
    go true = refl
    go false = refl
field-allowed (Signed c) f1 f5 f x e b n = rw n

-- what the row of a word asks of its fields
module _ (w : Word) (fs : List Field) where
  abbrev asks : ℕ → Asked
  asks j = asked_of (kind_at w j) (kept_at fs 0).number (kept_at fs 4).number (kept_at fs j)

  asks-shape : (j : ℕ) → j < 6 → same_shape (kept_at fs j).shape (asks j).shape ≡ shaped (kind_at w j) (field_at fs j)
  asks-shape j h = kept-shape (eqb j 5) (kind_at w j) _ _ (field_at fs j) (λ q. let n = eqb-false j 5 q in every-below (λ (i : ℕ). unsigned (kind_at w i)) 5 (unsigned-kinds w) j (omega (arith, n)))

  asks-in-shape : eqb (shapes_to fs 6) (due_to asks 6) ≡ in_shape w fs
  unfolding in_shape
  asks-in-shape = due-same fs asks 6 ∙ below-same _ _ 6 asks-shape

  asks-in-limits : in_shape w fs ≡ true → every_below (λ (j : ℕ). (asks j).allowed) 6 ≡ in_limits today w fs
  unfolding in_limits
  asks-in-limits e = below-same _ _ 6 each
    where
      each : (j : ℕ) → j < 6 → (asks j).allowed ≡ allowed today (kind_at w j) (F1 fs) (F5 fs) (field_at fs j)
      each j h =
          field-allowed (kind_at w j) (kept_at fs 0).number (kept_at fs 4).number (field_at fs j) (kept_at fs j) (field-shaped w fs e j h) (blank-kept (eqb j 5) (field_at fs j)) (number-kept w fs e j h)
          ∙ ap (λ (n : ℕ). allowed today (kind_at w j) n (kept_at fs 4).number (field_at fs j)) (number-kept w fs e 0 (omega arith))
          ∙ ap (λ (n : ℕ). allowed today (kind_at w j) (F1 fs) n (field_at fs j)) (number-kept w fs e 4 (omega arith))

  -- the registers that are written are told apart by the numbers that are kept of them
  registers-kept : in_shape w fs ≡ true → differ w (kept_fields fs) ≡ registers_differ w fs
  unfolding registers_differ kept_fields
  registers-kept e = go w (number-kept w fs e 0 (omega arith)) (number-kept w fs e 2 (omega arith))
    where
      go : (w : Word) → (kept_at fs 0).number ≡ F1 fs → (kept_at fs 2).number ≡ F3 fs → differ w (kept_fields fs) ≡ registers_differ w fs
      go Stop p q = refl
      go Setc p q = refl
      go Copy p q = refl
      go Addw p q = refl
      go Subw p q = refl
      go Mulw p q = refl
      go Divf p q = refl
      go Load p q = refl
      go Stor p q = refl
      go Jump p q = refl
      go Bltu p q = refl
      go Bequ p q = refl
      go Leas p q = refl
      go Most p q = refl
      go Strp p q = refl
      go Divm p q = rw (p, q)
      go Turn p q = refl

  -- what is asked of each field is asked of it as it is kept
  row-asked : asked_row w (kept_fields fs) ≡ record (row (asks 0) (asks 1) (asks 2) (asks 3) (asks 4) (asks 5)) { differ = differ w (kept_fields fs) }
  unfolding kept_fields
  row-asked = rw (shape-of-six fs 0 (omega arith), shape-of-six fs 1 (omega arith), shape-of-six fs 2 (omega arith), shape-of-six fs 3 (omega arith), shape-of-six fs 4 (omega arith), shape-of-six fs 5 (omega arith))

  shapes-kept : (kept_fields fs).shapes ≡ shapes_to fs 6
  unfolding kept_fields
  shapes-kept = refl

  judged_so : (place : ℕ) (d : Bool) → (in_shape w fs ≡ true → d ≡ registers_differ w fs)
      → row_judged place (shapes_to fs 6) (record (row (asks 0) (asks 1) (asks 2) (asks 3) (asks 4) (asks 5)) { differ = d }) ≡ judged today place (Some w) fs
  unfolding judged due_to every_below
  judged_so place d told = go (in_shape w fs) refl
    where
      due : packed (asks 0).shape (asks 1).shape (asks 2).shape (asks 3).shape (asks 4).shape (asks 5).shape ≡ due_to asks 6
      due = omega arith

      go : (b : Bool) → in_shape w fs ≡ b → row_judged place (shapes_to fs 6) (record (row (asks 0) (asks 1) (asks 2) (asks 3) (asks 4) (asks 5)) { differ = d }) ≡ judged today place (Some w) fs
      go true e = rw (due, asks-in-shape, e, told e, ← asks-in-limits e)
      go false e = rw (due, asks-in-shape, e)

  pub row-judged : (place : ℕ) → row_judged place (kept_fields fs).shapes (asked_row w (kept_fields fs)) ≡ judged today place (Some w) fs
  row-judged place =
      ap (λ (n : ℕ). row_judged place n (asked_row w (kept_fields fs))) shapes-kept
      ∙ ap (λ (r : AskedRow). row_judged place (shapes_to fs 6) r) row-asked
      ∙ judged_so place (differ w (kept_fields fs)) registers-kept
