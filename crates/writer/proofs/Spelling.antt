-- A line that is set is well spelled: its word and its fields have printable bytes, and it ends. Assumes nothing.
use Prim.Native.Nat.{ℕ, zero, suc, ◌+◌, ◌-◌, ◌/◌, ◌%◌, ◌<◌, ◌≤◌}
use native.Mathlib.Omega.{arith}
use mathlib.Core.Path.{◌≡◌, refl}
use mathlib.Core.Bool.{Bool, true, false}
use mathlib.Core.List.{List}
use lib.ListN.{get_or, length}
use lib.Dec.{leb}
use borrow.Author.Tests.{leb-true, leb-false, le-leb, eq-eqb, ne_eqb}
use Rattle.model.specs.Lists.{every_below}
use Rattle.model.specs.declared.text.Field.{Field}
use Rattle.model.specs.declared.text.Word.{Word}
use Rattle.model.specs.declared.text.Word.TheVariants.{Stop, Setc, Copy, Addw, Subw, Mulw, Divf, Load, Stor, Jump, Bltu, Bequ, Leas, Most, Strp, Divm, Turn}
use Rattle.model.specs.Text.{field_of}
use Rattle.model.specs.Words.{text_of, begins}
use Rattle.model.specs.Lines.{printable, well_spelled, column_of, width_of, field_at, line_set}
use Rattle.model.proofs.Tests.{and_both, every-below, all-below}
use Rattle.written_line.specs.Columns.{Fits, Taken}
use Rattle.written_line.proofs.ColumnsSetAgain.{field-printable}
use Rattle.writer.proofs.FieldsFit.{fits-taken}
use Rattle.written_line.proofs.LineFields.{bytes-of-word, line-end, line_word, line-field}

-- the bytes of the words, by computation
word-printable : (w : Word) → every_below (λ (j : ℕ). printable (get_or (text_of w) j 0)) 4 ≡ true
unfolding every_below printable
word-printable Stop = refl
word-printable Setc = refl
word-printable Copy = refl
word-printable Addw = refl
word-printable Subw = refl
word-printable Mulw = refl
word-printable Divf = refl
word-printable Load = refl
word-printable Stor = refl
word-printable Jump = refl
word-printable Bltu = refl
word-printable Bequ = refl
word-printable Leas = refl
word-printable Most = refl
word-printable Strp = refl
word-printable Divm = refl
word-printable Turn = refl

-- the bytes of columns that hold a field
printable-byte : (b : ℕ) → (32 ≤ b) × (b ≤ 57) → printable b ≡ true
unfolding printable
printable-byte b (l, h) = and_both (leb 32 b) (leb b 126) (le-leb 32 b l) (le-leb b 126 (omega arith))

-- a column from 4 to 38 is column i of some field k
record Place (j : ℕ) : Type 0 where
  k : ℕ
  i : ℕ
  field : k < 6
  column : i < width_of k
  sum : column_of k + i ≡ j

place : (j : ℕ) → 4 ≤ j → j < 39 → Place j
unfolding width_of
place j l h = go (leb 24 j) refl
  where
    go : (b : Bool) → leb 24 j ≡ b → Place j
    go true e = let q = leb-true 24 j e in record { k = 5; i = j - 24; field = omega arith; column = omega arith; sum = omega arith }
    go false e =
        let q = leb-false 24 j e in
        record { k = (j - 4) / 4; i = (j - 4) % 4; field = omega arith; column = rw (ne_eqb ((j - 4) / 4) 5 (λ x. omega arith)) (omega arith); sum = omega arith }

-- the law
pub line-spelled : (l t : List ℕ) (fs : List Field) (w : Word) → length l ≡ 40 → begins t (text_of w) ≡ true → ((j : ℕ) → j < 6 → Fits (width_of j) (field_at fs j)) → well_spelled (line_set l t fs) ≡ true
unfolding well_spelled
line-spelled l t fs w e b fit = and_both _ _ (all-below _ 39 byte) (eq-eqb _ _ (line-end l t fs e))
  where
    same : (j : ℕ) → j < 4 → get_or t j 0 ≡ get_or (text_of w) j 0
    same zero h = (bytes-of-word t (text_of w) b).0
    same (suc zero) h = (bytes-of-word t (text_of w) b).1
    same (suc (suc zero)) h = (bytes-of-word t (text_of w) b).2
    same (suc (suc (suc zero))) h = (bytes-of-word t (text_of w) b).3
    same (suc (suc (suc (suc j)))) h = absurd (omega arith)

    in_field : (j : ℕ) → Place j → printable (get_or (line_set l t fs) j 0) ≡ true
    in_field j p =
        let f = line-field l t fs e fit p.k p.field in
        let taken : Taken (field_of (line_set l t fs) (column_of p.k) (width_of p.k)) = rw f (fits-taken _ _ (fit p.k p.field)) in
        rw p.sum at (printable-byte _ (field-printable (line_set l t fs) (column_of p.k) (width_of p.k) taken p.i p.column))

    byte : (j : ℕ) → j < 39 → printable (get_or (line_set l t fs) j 0) ≡ true
    byte j h = go (leb 4 j) refl
      where
        go : (c : Bool) → leb 4 j ≡ c → printable (get_or (line_set l t fs) j 0) ≡ true
        go true q = in_field j (place j (leb-true 4 j q) h)
        go false q =
            let s : j < 4 = leb-false 4 j q in
            rw (line_word l t fs e j s, same j s) (every-below (λ (i : ℕ). printable (get_or (text_of w) i 0)) 4 (word-printable w) j s)
