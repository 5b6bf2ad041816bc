-- Where the fields of a word are in shape, the numbers that are kept of them are theirs: no word asks for a minus before F6. Assumes nothing.
use Prim.Native.Nat.{ℕ, ◌<◌}
use native.Mathlib.Omega.{arith}
use mathlib.Core.Path.{◌≡◌, refl}
use mathlib.Core.Bool.{Bool, true, false, false≢true}
use mathlib.Core.List.{List}
use lib.Dec.{eqb}
use borrow.Author.Tests.{eqb-false}
use Rattle.model.specs.declared.text.Field.{Field}
use Rattle.model.specs.declared.text.Field.TheVariants.{Blank, Number, Negative, Misshapen}
use Rattle.model.specs.declared.text.Kind.{Kind}
use Rattle.model.specs.declared.text.Kind.TheVariants.{Empty, Plain, Optional, Signed}
use Rattle.model.specs.declared.text.Word.{Word}
use Rattle.model.specs.declared.text.Word.TheVariants.{Stop, Setc, Copy, Addw, Subw, Mulw, Divf, Load, Stor, Jump, Bltu, Bequ, Leas, Most, Strp, Divm, Turn}
use Rattle.model.specs.Lists.{every_below}
use Rattle.model.specs.Text.{value_in}
use Rattle.model.specs.Words.{fields_of, shaped}
use Rattle.model.specs.Lines.{field_at, kind_at, in_shape}
use Rattle.model.proofs.Tests.{every-below}
use Rattle.columns.specs.Kept.{kept, kept_at}

-- a kind that asks for no minus
abbrev pub unsigned : Kind → Bool
unsigned Empty = true
unsigned (Plain c) = true
unsigned (Optional c) = true
unsigned (Signed c) = false

-- the kinds of F1 to F5
pub unsigned-kinds : (w : Word) → every_below (λ (j : ℕ). unsigned (kind_at w j)) 5 ≡ true
unfolding every_below fields_of
unsigned-kinds Stop = refl
unsigned-kinds Setc = refl
unsigned-kinds Copy = refl
unsigned-kinds Addw = refl
unsigned-kinds Subw = refl
unsigned-kinds Mulw = refl
unsigned-kinds Divf = refl
unsigned-kinds Load = refl
unsigned-kinds Stor = refl
unsigned-kinds Jump = refl
unsigned-kinds Bltu = refl
unsigned-kinds Bequ = refl
unsigned-kinds Leas = refl
unsigned-kinds Most = refl
unsigned-kinds Strp = refl
unsigned-kinds Divm = refl
unsigned-kinds Turn = refl

-- a field in shape for such a kind is blank or a number
pub blank-or-number : (P : Field → Type 0) (k : Kind) (f : Field) → unsigned k ≡ true → shaped k f ≡ true → P Blank → ((v : ℕ) → P (Number v)) → P f
unfolding shaped
blank-or-number P k Blank u e b n = b
blank-or-number P k (Number v) u e b n = n v
blank-or-number P Empty (Negative v) u e b n = absurd (false≢true e)
blank-or-number P (Plain c) (Negative v) u e b n = absurd (false≢true e)
blank-or-number P (Optional c) (Negative v) u e b n = absurd (false≢true e)
blank-or-number P (Signed c) (Negative v) u e b n = absurd (false≢true u)
blank-or-number P Empty Misshapen u e b n = absurd (false≢true e)
blank-or-number P (Plain c) Misshapen u e b n = absurd (false≢true e)
blank-or-number P (Optional c) Misshapen u e b n = absurd (false≢true e)
blank-or-number P (Signed c) Misshapen u e b n = absurd (false≢true e)

number-signed : (f : Field) → (kept true f).number ≡ value_in f
number-signed Blank = refl
number-signed (Number v) = refl
number-signed (Negative v) = refl
number-signed Misshapen = refl

module _ (w : Word) (fs : List Field) (e : in_shape w fs ≡ true) where
  pub field-shaped : (j : ℕ) → j < 6 → shaped (kind_at w j) (field_at fs j) ≡ true
  unfolding in_shape
  field-shaped j h = every-below (λ (i : ℕ). shaped (kind_at w i) (field_at fs i)) 6 e j h

  -- of F1 to F5
  plain-kept : (j : ℕ) → j < 5 → (kept false (field_at fs j)).number ≡ value_in (field_at fs j)
  plain-kept j h =
      blank-or-number (λ (f : Field). (kept false f).number ≡ value_in f) (kind_at w j) (field_at fs j) (every-below (λ (i : ℕ). unsigned (kind_at w i)) 5 (unsigned-kinds w) j h) (field-shaped j (omega arith)) refl (λ v. refl)

  pub number-kept : (j : ℕ) → j < 6 → (kept_at fs j).number ≡ value_in (field_at fs j)
  number-kept j h = go (eqb j 5) refl
    where
      go : (b : Bool) → eqb j 5 ≡ b → (kept b (field_at fs j)).number ≡ value_in (field_at fs j)
      go true q = number-signed (field_at fs j)
      go false q = let n = eqb-false j 5 q in plain-kept j (omega (arith, n))
