-- What is kept of a field by the shape of its columns. Assumes nothing.
use Prim.Native.Nat.{ℕ, zero, suc, ◌+◌, ◌*◌, ◌/◌, ◌%◌, ◌-◌, ◌^◌, ◌≤◌, ◌<◌}
use native.Mathlib.Omega.{arith}
use native.Mathlib.Decide.{ℕ_discrete}
use mathlib.Core.Path.{◌≡◌, refl, sym, ap, ◌∙◌}
use mathlib.Core.Bool.{Bool, true, false, ◌&&◌, cond, false≢true}
use mathlib.Core.List.{List}
use lib.ListN.{get_or}
use lib.Dec.{leb, eqb}
use borrow.Author.Tests.{eqb-true, eqb-false}
use Rattle.model.specs.declared.text.Shape.{Shape}
use Rattle.model.specs.declared.text.Shape.TheVariants.{Spaces, Zero, Digits, Sign, Signed, Wrong}
use Rattle.model.specs.declared.text.Field.{Field}
use Rattle.model.specs.declared.text.Field.TheVariants.{Number, Negative}
use Rattle.model.specs.Text.{space, minus_sign, is_digit, next_shape, shape_of, digits_of, field_from, field_of}
use denote.Enum.Declared.{tag_of}
use Rattle.columns.specs.declared.field.KeptShape.{KeptShape}
use Rattle.columns.specs.declared.field.KeptShape.TheVariants as Shape
use Rattle.columns.specs.declared.field.KeptField.{KeptField}
use Rattle.columns.specs.contracts.field.KeptShape.{the_type}
use Rattle.columns.specs.Kept.{number_of, shape_at, shape_in, signed, misshapen, kept, kept_at, shapes_to, packed, six, kept_fields}
use Rattle.columns.proofs.Shapes.{minus-first, other-first, zero-last, zero-leads}

-- the number of a shape is that which the language gives it
pub shape-number : (s : KeptShape) → tag_of the_type s ≡ number_of s
shape-number Shape.Blank = refl
shape-number Shape.Number = refl
shape-number Shape.Negative = refl
shape-number Shape.Misshapen = refl

-- a shape takes two binary digits
pub number-small : (s : KeptShape) → number_of s < 4
number-small Shape.Blank = omega arith
number-small Shape.Number = omega arith
number-small Shape.Negative = omega arith
number-small Shape.Misshapen = omega arith

-- a shape is found by its number
shape-found : (s : KeptShape) → shape_at (number_of s) ≡ s
shape-found Shape.Blank = refl
shape-found Shape.Number = refl
shape-found Shape.Negative = refl
shape-found Shape.Misshapen = refl

-- a number, after a minus only where one may stand
pub signed-kept : (may t : Bool) (v : ℕ) → (t ≡ true → may ≡ true) → signed t v ≡ kept may (cond t (Negative v) (Number v))
signed-kept true true v h = refl
signed-kept false true v h = absurd (false≢true (h refl))
signed-kept may false v h = refl

-- six fields, each kept as it is kept of these
pub six-kept : (fs : List Field) {a b c d e f : KeptField} → a ≡ kept_at fs 0 → b ≡ kept_at fs 1 → c ≡ kept_at fs 2 → d ≡ kept_at fs 3 → e ≡ kept_at fs 4 → f ≡ kept_at fs 5 → six a b c d e f ≡ kept_fields fs
unfolding kept_fields shapes_to
six-kept fs p q r t u v =
    let n : packed (kept_at fs 0).shape (kept_at fs 1).shape (kept_at fs 2).shape (kept_at fs 3).shape (kept_at fs 4).shape (kept_at fs 5).shape ≡ shapes_to fs 6 = omega arith in
    rw (p, q, r, t, u, v, n)

-- the shape of each of six fields is found in the number of all
pub shape-of-six : (fs : List Field) (j : ℕ) → j < 6 → shape_in (shapes_to fs 6) j ≡ (kept_at fs j).shape
unfolding shapes_to
shape-of-six fs j h = ap shape_at (among j h) ∙ shape-found (kept_at fs j).shape
  where
    small : (j : ℕ) → number_of (kept_at fs j).shape < 4
    small j = number-small (kept_at fs j).shape

    among : (j : ℕ) → j < 6 → shapes_to fs 6 / 2 ^ (2 * (5 - j)) % 4 ≡ number_of (kept_at fs j).shape
    among zero h = omega (arith, small 0, small 1, small 2, small 3, small 4, small 5)
    among (suc zero) h = omega (arith, small 0, small 1, small 2, small 3, small 4, small 5)
    among (suc (suc zero)) h = omega (arith, small 0, small 1, small 2, small 3, small 4, small 5)
    among (suc (suc (suc zero))) h = omega (arith, small 0, small 1, small 2, small 3, small 4, small 5)
    among (suc (suc (suc (suc zero)))) h = omega (arith, small 0, small 1, small 2, small 3, small 4, small 5)
    among (suc (suc (suc (suc (suc zero))))) h = omega (arith, small 0, small 1, small 2, small 3, small 4, small 5)
    among (suc (suc (suc (suc (suc (suc j)))))) h = absurd (omega arith)

-- columns that have had a minus, or are wrong
abbrev with_minus : Shape → Bool
with_minus Spaces = false
with_minus Zero = false
with_minus Digits = false
with_minus Sign = true
with_minus Signed = true
with_minus Wrong = true

minus-next : (f : Shape) (b : ℕ) → with_minus f ≡ true → with_minus (next_shape f b) ≡ true
unfolding next_shape
minus-next Spaces b e = absurd (false≢true e)
minus-next Zero b e = absurd (false≢true e)
minus-next Digits b e = absurd (false≢true e)
minus-next Sign b e = go (eqb b 48) (is_digit b)
  where
    go : (p q : Bool) → with_minus (cond p Wrong (cond q Signed Wrong)) ≡ true
    go true q = refl
    go false true = refl
    go false false = refl
minus-next Signed b e = go (is_digit b)
  where
    go : (p : Bool) → with_minus (cond p Signed Wrong) ≡ true
    go true = refl
    go false = refl
minus-next Wrong b e = refl

minus-kept : (f : Shape) (v : ℕ) → with_minus f ≡ true → kept false (field_from f v) ≡ misshapen
minus-kept Spaces v e = absurd (false≢true e)
minus-kept Zero v e = absurd (false≢true e)
minus-kept Digits v e = absurd (false≢true e)
minus-kept Sign v e = refl
minus-kept Signed v e = refl
minus-kept Wrong v e = refl

module _ (s : List ℕ) (at : ℕ) where
  minus-stays : (i n : ℕ) → i ≤ n → with_minus (shape_of s at i) ≡ true → with_minus (shape_of s at n) ≡ true
  unfolding shape_of
  minus-stays i zero h e = let q : i ≡ 0 = omega arith in rw q at e
  minus-stays i (suc n) h e = go (ℕ_discrete i (suc n)) (λ k. minus-stays i n k e)
    where
      go : Dec (i ≡ suc n) → (i ≤ n → with_minus (shape_of s at n) ≡ true) → with_minus (shape_of s at (suc n)) ≡ true
      go (yes q) f = rw q at e
      go (no q) f = minus-next (shape_of s at n) _ (f (omega arith))

  -- after spaces, a byte that no number begins with; a minus is one where none may stand
  pub other-kept : (may : Bool) (i n : ℕ) → i < n → shape_of s at i ≡ Spaces → digits_of s at i ≡ 0 → eqb (get_or s (at + i) 0) space ≡ false → (leb 49 (get_or s (at + i) 0) && leb (get_or s (at + i) 0) 57) ≡ false
      → (may && eqb (get_or s (at + i) 0) minus_sign) ≡ false → (get_or s (at + i) 0 ≡ 48 → ⊥) → kept may (field_of s at n) ≡ misshapen
  unfolding field_of
  other-kept may i n h e z p d m o = go may (eqb (get_or s (at + i) 0) minus_sign) refl m
    where
      go : (t u : Bool) → eqb (get_or s (at + i) 0) minus_sign ≡ u → (t && u) ≡ false → kept t (field_of s at n) ≡ misshapen
      go true true q r = absurd (false≢true (sym r))
      go t false q r = ap (kept t) (other-first s at i n h e p d (eqb-false _ _ q) o)
      go false true q r = minus-kept (shape_of s at n) (digits_of s at n) (minus-stays (i + 1) n (omega arith) (ap with_minus (minus-first s at i e z (eqb-true _ _ q)).0))

  -- a 0 after spaces
  pub zero-kept : (may : Bool) (i n : ℕ) → i < n → shape_of s at i ≡ Spaces → digits_of s at i ≡ 0 → get_or s (at + i) 0 ≡ 48 → cond (eqb (i + 1) n) (signed false 0) misshapen ≡ kept may (field_of s at n)
  zero-kept may i n h e z b = go (eqb (i + 1) n) refl
    where
      go : (t : Bool) → eqb (i + 1) n ≡ t → cond t (signed false 0) misshapen ≡ kept may (field_of s at n)
      go true l = ap (kept may) (sym (zero-last s at i n (eqb-true (i + 1) n l) e z b))
      go false l = let m = eqb-false (i + 1) n l in ap (kept may) (sym (zero-leads s at i n (omega (arith, m)) e b))
