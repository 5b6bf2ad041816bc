-- Fields that a word accepts have room in their columns: every limit lies below what the columns hold. Assumes nothing.
use Prim.Native.Nat.{ℕ, ◌^◌, ◌-◌, ◌≤◌, ◌<◌}
use native.Mathlib.Omega.{arith}
use mathlib.Core.Path.{◌≡◌, refl}
use mathlib.Core.Bool.{Bool, true, false, not, ◌&&◌, ◌||◌, false≢true}
use lib.Dec.{leb, ltb, eqb}
use borrow.Author.Tests.{leb-true, ltb-true, eqb-true, eqb-false}
use Rattle.model.specs.Limits.{registers, tables, variables, MAX, greatest_size, greatest_scale, greatest_offset, greatest_bound, greatest_points, today}
use Rattle.model.specs.Lists.{every_below}
use Rattle.model.specs.declared.text.Field.{Field}
use Rattle.model.specs.declared.text.Field.TheVariants.{Blank, Number, Negative, Misshapen}
use Rattle.model.specs.declared.text.Word.{Word}
use Rattle.model.specs.declared.text.Word.TheVariants.{Stop, Setc, Copy, Addw, Subw, Mulw, Divf, Load, Stor, Jump, Bltu, Bequ, Leas, Most, Strp, Divm, Turn}
use Rattle.model.specs.declared.text.Content.{Content}
use Rattle.model.specs.declared.text.Content.TheVariants.{Register, Variable, Target, Width, Table, Scale, Offset, Number as number, Choice, Operand, Claimed, Bound}
use Rattle.model.specs.declared.text.Kind.{Kind}
use Rattle.model.specs.declared.text.Kind.TheVariants.{Empty, Plain, Optional, Signed}
use Rattle.model.specs.Words.{fields_of, shaped, within, allowed}
use Rattle.model.specs.Lines.{width_of, kind_at}
use Rattle.model.proofs.Tests.{or_cases, and_left, and_right, cond_cases, every-below}
use Rattle.written_line.specs.Columns.{Fits, Taken}

-- the greatest number of a content, whatever the other fields hold
abbrev greatest : Content → ℕ
greatest Register = registers - 1
greatest Variable = variables - 1
greatest Target = greatest_points - 1
greatest Width = 4
greatest Table = tables - 1
greatest Scale = greatest_scale
greatest Offset = greatest_offset
greatest number = MAX
greatest Choice = 1
greatest Operand = MAX
greatest Claimed = MAX
greatest Bound = greatest_bound

below-greatest : (c : Content) (f1 f5 v : ℕ) → within today c f1 f5 v ≡ true → v ≤ greatest c
unfolding within
below-greatest Register f1 f5 v e = omega (arith, ltb-true v registers e)
below-greatest Variable f1 f5 v e = omega (arith, ltb-true v variables e)
below-greatest Target f1 f5 v e = omega (arith, ltb-true v greatest_points e)
below-greatest Width f1 f5 v e =
    or_cases (eqb v 1 || eqb v 2) (eqb v 4) e
    (λ d. or_cases (eqb v 1) (eqb v 2) d (λ p. omega (arith, eqb-true v 1 p)) (λ p. omega (arith, eqb-true v 2 p)))
    (λ p. omega (arith, eqb-true v 4 p))
below-greatest Table f1 f5 v e = omega (arith, ltb-true v tables e)
below-greatest Scale f1 f5 v e = leb-true v greatest_scale (and_right (leb 1 v) _ e)
below-greatest Offset f1 f5 v e = leb-true v greatest_offset e
below-greatest number f1 f5 v e = leb-true v MAX e
below-greatest Choice f1 f5 v e = leb-true v 1 e
below-greatest Operand f1 f5 v e =
    cond_cases (λ b. b ≡ true → v ≤ MAX) (eqb f5 0) (ltb v variables) (leb v MAX) (λ _ d. omega (arith, ltb-true v variables d)) (λ _ d. leb-true v MAX d) e
below-greatest Claimed f1 f5 v e =
    cond_cases (λ b. b ≡ true → v ≤ MAX) (ltb f1 registers) (leb v MAX) (leb v greatest_size) (λ _ d. leb-true v MAX d) (λ _ d. omega (arith, leb-true v greatest_size d)) e
below-greatest Bound f1 f5 v e = leb-true v greatest_bound e

-- n columns hold every field of a kind
abbrev holds : ℕ → Kind → Bool
holds n Empty = true
holds n (Plain c) = ltb 0 n && ltb (greatest c) (10 ^ n)
holds n (Optional c) = ltb 0 n && ltb (greatest c) (10 ^ n)
holds n (Signed c) = ltb 1 n && (ltb (greatest c) (10 ^ (n - 1)) && ltb (greatest c) (10 ^ n))

-- the table of the words, by computation
columns-hold : (w : Word) → every_below (λ (j : ℕ). holds (width_of j) (kind_at w j)) 6 ≡ true
unfolding every_below fields_of width_of
columns-hold Stop = refl
columns-hold Setc = refl
columns-hold Copy = refl
columns-hold Addw = refl
columns-hold Subw = refl
columns-hold Mulw = refl
columns-hold Divf = refl
columns-hold Load = refl
columns-hold Stor = refl
columns-hold Jump = refl
columns-hold Bltu = refl
columns-hold Bequ = refl
columns-hold Leas = refl
columns-hold Most = refl
columns-hold Strp = refl
columns-hold Divm = refl
columns-hold Turn = refl

number_fits : (n v g : ℕ) → v ≤ g → (ltb 0 n && ltb g (10 ^ n)) ≡ true → (0 < n) × (v < 10 ^ n)
number_fits n v g h e = let a = ltb-true 0 n (and_left (ltb 0 n) _ e) in let b = ltb-true g (10 ^ n) (and_right (ltb 0 n) _ e) in (a, omega arith)

kind_fits : (n : ℕ) (k : Kind) (f1 f5 : ℕ) (f : Field) → holds n k ≡ true → shaped k f ≡ true → allowed today k f1 f5 f ≡ true → Fits n f
unfolding shaped allowed Fits
kind_fits n Empty f1 f5 Blank r s a = tt
kind_fits n Empty f1 f5 (Number v) r s a = absurd (false≢true s)
kind_fits n Empty f1 f5 (Negative v) r s a = absurd (false≢true s)
kind_fits n Empty f1 f5 Misshapen r s a = absurd (false≢true s)
kind_fits n (Plain c) f1 f5 Blank r s a = tt
kind_fits n (Plain c) f1 f5 (Number v) r s a = number_fits n v (greatest c) (below-greatest c f1 f5 v a) r
kind_fits n (Plain c) f1 f5 (Negative v) r s a = absurd (false≢true s)
kind_fits n (Plain c) f1 f5 Misshapen r s a = absurd (false≢true s)
kind_fits n (Optional c) f1 f5 Blank r s a = tt
kind_fits n (Optional c) f1 f5 (Number v) r s a = number_fits n v (greatest c) (below-greatest c f1 f5 v a) r
kind_fits n (Optional c) f1 f5 (Negative v) r s a = absurd (false≢true s)
kind_fits n (Optional c) f1 f5 Misshapen r s a = absurd (false≢true s)
kind_fits n (Signed c) f1 f5 Blank r s a = tt
kind_fits n (Signed c) f1 f5 (Number v) r s a =
    let m = below-greatest c f1 f5 v a in
    let one = ltb-true 1 n (and_left (ltb 1 n) _ r) in
    let b = ltb-true (greatest c) (10 ^ n) (and_right (ltb (greatest c) (10 ^ (n - 1))) _ (and_right (ltb 1 n) _ r)) in
    (omega arith, omega arith)
kind_fits n (Signed c) f1 f5 (Negative v) r s a =
    let m = below-greatest c f1 f5 v a in
    let one = ltb-true 1 n (and_left (ltb 1 n) _ r) in
    let b = ltb-true (greatest c) (10 ^ (n - 1)) (and_left (ltb (greatest c) (10 ^ (n - 1))) _ (and_right (ltb 1 n) _ r)) in
    (one, positive (eqb v 0) refl s, omega arith)
  where
    positive : (b : Bool) → eqb v 0 ≡ b → not b ≡ true → 0 < v
    positive true q e = absurd (false≢true e)
    positive false q e = omega (arith, eqb-false v 0 q)
kind_fits n (Signed c) f1 f5 Misshapen r s a = absurd (false≢true s)

-- the law: field j of a word fits its columns where it is in shape and within its limits
pub accepted-fits : (w : Word) (j : ℕ) → j < 6 → (f1 f5 : ℕ) (f : Field) → shaped (kind_at w j) f ≡ true → allowed today (kind_at w j) f1 f5 f ≡ true → Fits (width_of j) f
accepted-fits w j h f1 f5 f s a = kind_fits (width_of j) (kind_at w j) f1 f5 f (every-below (λ (i : ℕ). holds (width_of i) (kind_at w i)) 6 (columns-hold w) j h) s a

-- a field that fits is no misshapen one
pub fits-taken : (n : ℕ) (f : Field) → Fits n f → Taken f
unfolding Fits
fits-taken n Blank h = tt
fits-taken n (Number v) h = tt
fits-taken n (Negative v) h = tt
fits-taken n Misshapen h = h
