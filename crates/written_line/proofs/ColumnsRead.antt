-- What is written into n columns is read from them again, where it fits into n columns. Assumes nothing.
use Prim.Native.Nat.{ℕ, zero, suc, ◌+◌, ◌*◌, ◌/◌, ◌%◌, ◌-◌, ◌^◌, ◌<◌, ◌≤◌}
use native.Mathlib.Nat.{not-suc-le-zero, pow-suc}
use native.Mathlib.Omega.{arith}
use mathlib.Core.Path.{◌≡◌, refl, sym, subst}
use mathlib.Core.Bool.{Bool, true, false, cond}
use mathlib.Core.List.{List}
use lib.ListN.{get_or, set, length, length-set}
use lib.Dec.{ltb, eqb}
use borrow.Author.Tests.{ltb-true, ltb-false, eqb-true, eqb-false, le-leb, ne_eqb}
use Rattle.model.specs.declared.text.Shape.{Shape}
use Rattle.model.specs.declared.text.Shape.TheVariants.{Spaces, Zero, Digits, Sign, Signed, Wrong}
use Rattle.model.specs.declared.text.Field.TheVariants.{Blank, Number, Negative, Misshapen}
use Rattle.model.specs.Text.{is_digit, digit_of, next_shape, shape_of, digits_of, field_from, field_of, last_byte, shape_before, columns_set, field_set}
use Rattle.model.proofs.Tests.{cond_cases}
use Rattle.written_line.specs.Columns.{Fits, FieldIsRead}
use Rattle.written_line.proofs.OtherColumns.{last_set}

-- the numbers that a shape stands with
abbrev pub Holds : Shape → ℕ → Type 0
Holds Spaces v = v ≡ 0
Holds Zero v = v ≡ 0
Holds Digits v = 0 < v
Holds Sign v = v ≡ 0
Holds Signed v = 0 < v
Holds Wrong v = ⊥

is_digit-of : (d : ℕ) → d < 10 → is_digit (48 + d) ≡ true
unfolding is_digit
is_digit-of d h = simp (le-leb 48 (48 + d) (omega arith), le-leb (48 + d) 57 (omega arith))

digit-of : (d : ℕ) → d < 10 → digit_of (48 + d) ≡ d
unfolding digit_of
digit-of d h = simp (is_digit-of d h) (omega arith)

-- ---- one column: the reader's step undoes the writer's
abbrev Undone : Shape → ℕ → Shape → Type 0
Undone f v g = (next_shape g (last_byte f v) ≡ f) × Holds g (v / 10)

undone : (f : Shape) (v : ℕ) → Holds f v → Undone f v (shape_before f v)
unfolding next_shape
undone Spaces v h = (refl, omega arith)
undone Zero v h = (refl, omega arith)
undone Digits v h =
    cond_cases (Undone Digits v) (ltb v 10) Spaces Digits
    (λ e. let l : v < 10 = ltb-true v 10 e in (simp (ne_eqb (48 + v % 10) 32 (λ q. omega arith), ne_eqb (48 + v % 10) 45 (λ q. omega arith), ne_eqb (48 + v % 10) 48 (λ q. omega arith), is_digit-of (v % 10) (omega arith)), omega arith))
    (λ e. (simp (is_digit-of (v % 10) (omega arith)), omega (arith, ltb-false v 10 e)))
undone Sign v h = (refl, omega arith)
undone Signed v h =
    cond_cases (Undone Signed v) (ltb v 10) Sign Signed
    (λ e. let l : v < 10 = ltb-true v 10 e in (simp (ne_eqb (48 + v % 10) 48 (λ q. omega arith), is_digit-of (v % 10) (omega arith)), omega arith))
    (λ e. (simp (is_digit-of (v % 10) (omega arith)), omega (arith, ltb-false v 10 e)))
undone Wrong v h = absurd h

number-undone : (f : Shape) (v : ℕ) → Holds f v → v / 10 * 10 + digit_of (last_byte f v) ≡ v
unfolding digit_of is_digit
number-undone Spaces v h = omega arith
number-undone Zero v h = omega arith
number-undone Digits v h = omega (arith, digit-of (v % 10) (omega arith))
number-undone Sign v h = omega arith
number-undone Signed v h = omega (arith, digit-of (v % 10) (omega arith))
number-undone Wrong v h = absurd h

-- ---- n columns
-- the shape that is left over when n columns are written: `Spaces` where all was written
abbrev left_over : ℕ → Shape → ℕ → Shape
left_over zero f v = f
left_over (suc n) f v = left_over n (shape_before f v) (v / 10)

columns-read : (s : List ℕ) (at n : ℕ) (f : Shape) (v : ℕ) → at + n ≤ length s → Holds f v → left_over n f v ≡ Spaces
    → (shape_of (columns_set s at n f v) at n ≡ f) × (digits_of (columns_set s at n f v) at n ≡ v)
unfolding columns_set shape_of digits_of
columns-read s at zero f v fit h e = (sym e, sym (subst (λ g. Holds g v) e h))
columns-read s at (suc n) f v fit h e =
    let s' = set s (at + n) (last_byte f v) in
    let l : at + n ≤ length s' = rw length-set (omega arith) in
    let b = undone f v h in
    let p = columns-read s' at n (shape_before f v) (v / 10) l b.1 e in
    let q = last_set s at n f v (omega arith) in
    (rw (p.0, q) b.0, rw (p.1, q) (number-undone f v h))

-- ---- what n columns have room for
spaces-fit : (n v : ℕ) → left_over n Spaces v ≡ Spaces
spaces-fit zero v = refl
spaces-fit (suc n) v = spaces-fit n (v / 10)

zero-fits : (n v : ℕ) → 0 < n → left_over n Zero v ≡ Spaces
zero-fits zero v h = absurd (not-suc-le-zero h)
zero-fits (suc n) v h = spaces-fit n (v / 10)

-- a number of two digits needs a column more
column-more : (n v : ℕ) → 10 ≤ v → v < 10 ^ n * 10 → 0 < n
column-more zero v l k = omega arith
column-more (suc n) v l k = omega arith

digits-fit : (n v : ℕ) → 0 < n → v < 10 ^ n → left_over n Digits v ≡ Spaces
digits-fit zero v p h = absurd (not-suc-le-zero p)
digits-fit (suc n) v p h =
    let k : v < 10 ^ n * 10 = rw pow-suc at h in
    cond_cases (λ f. left_over n f (v / 10) ≡ Spaces) (ltb v 10) Spaces Digits (λ e. spaces-fit n (v / 10)) (λ e. digits-fit n (v / 10) (column-more n v (ltb-false v 10 e) k) (omega arith))

signed-fits : (n v : ℕ) → 0 < n → v < 10 ^ n → left_over (suc n) Signed v ≡ Spaces
signed-fits zero v p h = absurd (not-suc-le-zero p)
signed-fits (suc n) v p h =
    let k : v < 10 ^ n * 10 = rw pow-suc at h in
    cond_cases (λ f. left_over (suc n) f (v / 10) ≡ Spaces) (ltb v 10) Sign Signed (λ e. spaces-fit n (v / 10 / 10)) (λ e. signed-fits n (v / 10) (column-more n v (ltb-false v 10 e) k) (omega arith))

minus-fits : (n v : ℕ) → 1 < n → v < 10 ^ (n - 1) → left_over n Signed v ≡ Spaces
minus-fits n v p h = let e : suc (n - 1) ≡ n = omega arith in subst (λ m. left_over m Signed v ≡ Spaces) e (signed-fits (n - 1) v (omega arith) h)

-- the law
pub field-read : FieldIsRead
unfolding Fits field_of field_set
field-read s at n Blank fit h = let p = columns-read s at n Spaces 0 fit refl (spaces-fit n 0) in rw p.0
field-read s at n (Number v) fit h = go (eqb v 0) refl
  where
    go : (t : Bool) → eqb v 0 ≡ t → field_from (shape_of (columns_set s at n (cond t Zero Digits) v) at n) (digits_of (columns_set s at n (cond t Zero Digits) v) at n) ≡ Number v
    go true e = let p = columns-read s at n Zero v fit (eqb-true v 0 e) (zero-fits n v h.0) in rw (p.0, p.1)
    go false e = let p = columns-read s at n Digits v fit (omega (arith, eqb-false v 0 e)) (digits-fit n v h.0 h.1) in rw (p.0, p.1)
field-read s at n (Negative v) fit h =
    let p = columns-read s at n Signed v fit h.1 (minus-fits n v h.0 h.2) in rw (ne_eqb v 0 (λ e. omega arith), p.0, p.1)
field-read s at n Misshapen fit h = absurd h

-- ---- the reader looks at its own columns only
module _ (s t : List ℕ) (at : ℕ) where
  shape_same : (n : ℕ) → ((i : ℕ) → i < n → get_or s (at + i) 0 ≡ get_or t (at + i) 0) → shape_of s at n ≡ shape_of t at n
  unfolding shape_of
  shape_same zero e = refl
  shape_same (suc n) e = rw (shape_same n (λ i h. e i (omega arith)), e n (omega arith))

  digits_same : (n : ℕ) → ((i : ℕ) → i < n → get_or s (at + i) 0 ≡ get_or t (at + i) 0) → digits_of s at n ≡ digits_of t at n
  unfolding digits_of
  digits_same zero e = refl
  digits_same (suc n) e = rw (digits_same n (λ i h. e i (omega arith)), e n (omega arith))

  pub field-same : (n : ℕ) → ((i : ℕ) → i < n → get_or s (at + i) 0 ≡ get_or t (at + i) 0) → field_of s at n ≡ field_of t at n
  unfolding field_of
  field-same n e = rw (shape_same n e, digits_same n e)
