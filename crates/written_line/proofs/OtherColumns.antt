-- Columns that are set: the length and every other byte stay, and what stood in the columns does not matter. Assumes nothing.
use Prim.Native.Nat.{ℕ, zero, suc, ◌+◌, ◌/◌, ◌≤◌, ◌<◌}
use native.Mathlib.Nat.{not-suc-le-zero}
use native.Mathlib.Omega.{arith}
use native.Mathlib.Decide.{ℕ_discrete}
use mathlib.Core.Path.{◌≡◌, refl, sym, ◌∙◌}
use mathlib.Core.List.{List}
use lib.ListN.{get_or, set, length, length-set}
use lib.Seq.{get_or-set_same, get_or-set_other}
use Rattle.model.specs.declared.text.Shape.{Shape}
use Rattle.model.specs.declared.text.Field.{Field}
use Rattle.model.specs.Text.{last_byte, shape_before, columns_set, shape_for, value_in, field_set}

-- column j is none of the n from column at on
abbrev pub Outside : ℕ → ℕ → ℕ → Type 0
Outside at n j = (i : ℕ) → i < n → j ≡ at + i → ⊥

length-columns : (s : List ℕ) (at n : ℕ) (f : Shape) (v : ℕ) → length (columns_set s at n f v) ≡ length s
unfolding columns_set
length-columns s at zero f v = refl
length-columns s at (suc n) f v = length-columns (set s (at + n) (last_byte f v)) at n (shape_before f v) (v / 10) ∙ length-set s (at + n) (last_byte f v)

pub columns-kept : (s : List ℕ) (at n : ℕ) (f : Shape) (v j : ℕ) → Outside at n j → get_or (columns_set s at n f v) j 0 ≡ get_or s j 0
unfolding columns_set
columns-kept s at zero f v j out = refl
columns-kept s at (suc n) f v j out =
    columns-kept (set s (at + n) (last_byte f v)) at n (shape_before f v) (v / 10) j (λ i h. out i (omega arith))
    ∙ get_or-set_other s (at + n) j (last_byte f v) 0 (out n (omega arith))

-- the byte of the last column
pub last_set : (s : List ℕ) (at n : ℕ) (f : Shape) (v : ℕ) → at + n < length s → get_or (columns_set (set s (at + n) (last_byte f v)) at n (shape_before f v) (v / 10)) (at + n) 0 ≡ last_byte f v
last_set s at n f v fit =
    columns-kept (set s (at + n) (last_byte f v)) at n (shape_before f v) (v / 10) (at + n) (λ i h e. omega arith)
    ∙ get_or-set_same s (at + n) (last_byte f v) 0 fit

columns-alike : (s t : List ℕ) (at n : ℕ) (f : Shape) (v i : ℕ) → at + n ≤ length s → at + n ≤ length t → i < n → get_or (columns_set s at n f v) (at + i) 0 ≡ get_or (columns_set t at n f v) (at + i) 0
unfolding columns_set
columns-alike s t at zero f v i fit fit' h = absurd (not-suc-le-zero h)
columns-alike s t at (suc n) f v i fit fit' h =
    go (ℕ_discrete i n) (columns-alike (set s (at + n) (last_byte f v)) (set t (at + n) (last_byte f v)) at n (shape_before f v) (v / 10) i (rw length-set (omega arith)) (rw length-set (omega arith)))
  where
    -- the byte of column j of a list, where the last column is set before the others
    byte : List ℕ → ℕ → ℕ
    byte l j = get_or (columns_set (set l (at + n) (last_byte f v)) at n (shape_before f v) (v / 10)) j 0

    go : Dec (i ≡ n) → (i < n → byte s (at + i) ≡ byte t (at + i)) → byte s (at + i) ≡ byte t (at + i)
    go (yes q) k = rw q (last_set s at n f v (omega arith) ∙ sym (last_set t at n f v (omega arith)))
    go (no q) k = k (omega arith)

-- ---- the same for a field
module _ (s : List ℕ) (at n : ℕ) (f : Field) where
  pub length-field : length (field_set s at n f) ≡ length s
  unfolding field_set
  length-field = length-columns s at n (shape_for f) (value_in f)

  pub field-kept : (j : ℕ) → Outside at n j → get_or (field_set s at n f) j 0 ≡ get_or s j 0
  unfolding field_set
  field-kept j out = columns-kept s at n (shape_for f) (value_in f) j out

  pub field_alike : (t : List ℕ) → at + n ≤ length s → at + n ≤ length t → (i : ℕ) → i < n → get_or (field_set s at n f) (at + i) 0 ≡ get_or (field_set t at n f) (at + i) 0
  unfolding field_set
  field_alike t fit fit' i h = columns-alike s t at n (shape_for f) (value_in f) i fit fit' h
