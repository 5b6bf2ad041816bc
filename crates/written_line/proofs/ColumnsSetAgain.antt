-- n columns that hold a field are the columns that the writer sets for it, and their bytes are printable. Assumes nothing.
use Prim.Native.Nat.{ℕ, zero, suc, ◌+◌, ◌*◌, ◌/◌, ◌%◌, ◌<◌, ◌≤◌}
use native.Mathlib.Nat.{not-suc-le-zero}
use native.Mathlib.Omega.{arith}
use native.Mathlib.Decide.{ℕ_discrete}
use mathlib.Core.Path.{◌≡◌, refl, sym}
use mathlib.Core.Bool.{true, false}
use mathlib.Core.List.{List}
use lib.ListN.{get_or}
use lib.Dec.{eqb}
use lib.Seq.{set-get_or}
use borrow.Author.Tests.{eqb-true, eqb-false, eq-eqb, ne_eqb, lt-ltb, le-ltb}
use Rattle.model.specs.declared.text.Shape.{Shape}
use Rattle.model.specs.declared.text.Shape.TheVariants.{Spaces, Zero, Digits, Sign, Signed, Wrong}
use Rattle.model.specs.Text.{is_digit, digit_of, next_shape, shape_of, digits_of, field_from, field_of, value_in, last_byte, shape_before, columns_set, shape_for, field_set}
use Rattle.model.proofs.Tests.{cond_cases}
use Rattle.written_line.specs.Columns.{Taken, FieldIsSet}
use Rattle.model.proofs.Digits.{digit-byte, digit-below}
use Rattle.written_line.proofs.ColumnsRead.{Holds}

digit-back : (b : ℕ) → is_digit b ≡ true → 48 + digit_of b ≡ b
unfolding digit_of
digit-back b h = simp h (omega (arith, digit-byte b h))

-- ---- one column: the writer's step undoes the reader's, from the shape g and the number w by the byte b to the shape f
abbrev number : ℕ → ℕ → ℕ
number w b = w * 10 + digit_of b

pub record Step (g : Shape) (w b : ℕ) (f : Shape) : Type 0 where
  before : shape_before f (number w b) ≡ g
  last : last_byte f (number w b) ≡ b
  holds : Holds f (number w b)
  low : 32 ≤ b
  high : b ≤ 57

-- nothing is said of a wrong shape
abbrev Undone : Shape → ℕ → ℕ → Shape → Type 0
Undone g w b Spaces = Step g w b Spaces
Undone g w b Zero = Step g w b Zero
Undone g w b Digits = Step g w b Digits
Undone g w b Sign = Step g w b Sign
Undone g w b Signed = Step g w b Signed
Undone g w b Wrong = Unit {0}

-- a first digit, and a digit more
first-digit : (w b : ℕ) → w ≡ 0 → is_digit b ≡ true → eqb b 48 ≡ false → (number w b < 10) × (48 + number w b % 10 ≡ b) × (0 < number w b) × (32 ≤ b) × (b ≤ 57)
first-digit w b h e z = let o = digit-back b e in let d = digit-below b in let n = eqb-false b 48 z in let (l, u) = digit-byte b e in (omega arith, omega arith, omega arith, omega arith, omega arith)

next-digit : (w b : ℕ) → 0 < w → is_digit b ≡ true → (10 ≤ number w b) × (48 + number w b % 10 ≡ b) × (0 < number w b) × (32 ≤ b) × (b ≤ 57)
next-digit w b h e = let o = digit-back b e in let d = digit-below b in let (l, u) = digit-byte b e in (omega arith, omega arith, omega arith, omega arith, omega arith)

undone : (g : Shape) (w b : ℕ) → Holds g w → Undone g w b (next_shape g b)
unfolding next_shape digit_of is_digit
undone Spaces w b h =
    cond_cases (Undone Spaces w b) (eqb b 32) Spaces _ (λ e. let q = eqb-true b 32 e in record { before = refl; last = sym q; holds = rw (h, q); low = omega arith; high = omega arith })
    (λ _. cond_cases (Undone Spaces w b) (eqb b 45) Sign _ (λ e. let q = eqb-true b 45 e in record { before = refl; last = sym q; holds = rw (h, q); low = omega arith; high = omega arith })
    (λ _. cond_cases (Undone Spaces w b) (eqb b 48) Zero _ (λ e. let q = eqb-true b 48 e in record { before = refl; last = sym q; holds = rw (h, q); low = omega arith; high = omega arith })
    (λ z. cond_cases (Undone Spaces w b) (is_digit b) Digits Wrong
    (λ e. let (small, last, more, low, high) = first-digit w b h e z in record { before = rw (lt-ltb (number w b) 10 small); last = last; holds = more; low = low; high = high }) (λ _. tt))))
undone Zero w b h = tt
undone Digits w b h =
    cond_cases (Undone Digits w b) (is_digit b) Digits Wrong
    (λ e. let (great, last, more, low, high) = next-digit w b h e in record { before = rw (le-ltb (number w b) 10 great); last = last; holds = more; low = low; high = high }) (λ _. tt)
undone Sign w b h =
    cond_cases (Undone Sign w b) (eqb b 48) Wrong _ (λ _. tt)
    (λ z. cond_cases (Undone Sign w b) (is_digit b) Signed Wrong
    (λ e. let (small, last, more, low, high) = first-digit w b h e z in record { before = rw (lt-ltb (number w b) 10 small); last = last; holds = more; low = low; high = high }) (λ _. tt))
undone Signed w b h =
    cond_cases (Undone Signed w b) (is_digit b) Signed Wrong
    (λ e. let (great, last, more, low, high) = next-digit w b h e in record { before = rw (le-ltb (number w b) 10 great); last = last; holds = more; low = low; high = high }) (λ _. tt)
undone Wrong w b h = tt

-- a shape that is not wrong
abbrev Right : Shape → Type 0
Right Spaces = Unit {0}
Right Zero = Unit {0}
Right Digits = Unit {0}
Right Sign = Unit {0}
Right Signed = Unit {0}
Right Wrong = ⊥

step : (g : Shape) (w b : ℕ) (f : Shape) → Undone g w b f → Right f → Step g w b f
step g w b Spaces x t = x
step g w b Zero x t = x
step g w b Digits x t = x
step g w b Sign x t = x
step g w b Signed x t = x
step g w b Wrong x t = absurd t

right-before : (g : Shape) (b : ℕ) → Right (next_shape g b) → Right g
unfolding next_shape
right-before Spaces b t = tt
right-before Zero b t = tt
right-before Digits b t = tt
right-before Sign b t = tt
right-before Signed b t = tt
right-before Wrong b t = t

-- ---- n columns
module _ (s : List ℕ) (at : ℕ) where
  columns-set : (n : ℕ) → Right (shape_of s at n) → Holds (shape_of s at n) (digits_of s at n) × (columns_set s at n (shape_of s at n) (digits_of s at n) ≡ s)
  unfolding columns_set shape_of digits_of
  columns-set zero t = (refl, refl)
  columns-set (suc n) t =
      let g = shape_of s at n in
      let w = digits_of s at n in
      let b = get_or s (at + n) 0 in
      let i = columns-set n (right-before g b t) in
      let p = step g w b (next_shape g b) (undone g w b i.0) t in
      let d : number w b / 10 ≡ w = omega (arith, digit-below b) in
      (p.holds, rw (p.before, p.last, d, set-get_or s (at + n) 0) i.1)

  columns-printable : (n : ℕ) → Right (shape_of s at n) → (i : ℕ) → i < n → (32 ≤ get_or s (at + i) 0) × (get_or s (at + i) 0 ≤ 57)
  unfolding shape_of
  columns-printable zero t i h = absurd (not-suc-le-zero h)
  columns-printable (suc n) t i h =
      let g = shape_of s at n in
      let b = get_or s (at + n) 0 in
      let r = right-before g b t in
      let p = step g (digits_of s at n) b (next_shape g b) (undone g (digits_of s at n) b (columns-set n r).0) t in
      go (ℕ_discrete i n) p.low p.high (columns-printable n r i)
    where
      go : Dec (i ≡ n) → 32 ≤ get_or s (at + n) 0 → get_or s (at + n) 0 ≤ 57 → (i < n → (32 ≤ get_or s (at + i) 0) × (get_or s (at + i) 0 ≤ 57)) → (32 ≤ get_or s (at + i) 0) × (get_or s (at + i) 0 ≤ 57)
      go (yes q) l u f = rw q (l, u)
      go (no q) l u f = f (omega arith)

-- ---- fields
right-field : (g : Shape) (v : ℕ) → Taken (field_from g v) → Right g
right-field Spaces v r = tt
right-field Zero v r = tt
right-field Digits v r = tt
right-field Sign v r = tt
right-field Signed v r = tt
right-field Wrong v r = r

-- the law
pub field-set : FieldIsSet
unfolding field_of field_set
field-set s at n r = go (shape_of s at n) (digits_of s at n) r (columns-set s at n)
  where
    go : (g : Shape) (v : ℕ) → Taken (field_from g v) → (Right g → Holds g v × (columns_set s at n g v ≡ s)) → columns_set s at n (shape_for (field_from g v)) (value_in (field_from g v)) ≡ s
    go Spaces v r k = let p = k tt in rw p.0 at p.1
    go Zero v r k = let p = k tt in rw (eq-eqb v 0 p.0) p.1
    go Digits v r k = let p = k tt in rw (ne_eqb v 0 (λ e. omega (arith, p.0))) p.1
    go Sign v r k = absurd r
    go Signed v r k = let p = k tt in rw (ne_eqb v 0 (λ e. omega (arith, p.0))) p.1
    go Wrong v r k = absurd r

pub field-printable : (s : List ℕ) (at n : ℕ) → Taken (field_of s at n) → (i : ℕ) → i < n → (32 ≤ get_or s (at + i) 0) × (get_or s (at + i) 0 ≤ 57)
unfolding field_of
field-printable s at n r = columns-printable s at n (right-field (shape_of s at n) (digits_of s at n) r)
