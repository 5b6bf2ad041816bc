-- Columns that are spaces, and digits written into them one by one. Assumes nothing.
use Prim.Native.Nat.{ℕ, zero, suc, ◌+◌, ◌-◌, ◌/◌, ◌%◌, ◌≤◌, ◌<◌}
use native.Mathlib.Nat.{not-suc-le-zero}
use native.Mathlib.Numerals.{unary_clauses}
use native.Mathlib.Omega.{arith}
use mathlib.Core.Path.{◌≡◌, refl, sym, ◌∙◌}
use mathlib.Core.Bool.{Bool, true, false, cond}
use mathlib.Core.List.{List, [], ◌∷◌, ◌++◌}
use lib.ListN.{get_or, set, length, drop, replicate}
use lib.Dec.{eqb}
use lib.Seq.{set-get_or, get_or-set_other}
use Rattle.std.proofs.lemmas.List.{get_or-replicate}
use borrow.Author.Tests.{lt-ltb, le-ltb, ne_eqb, eq-eqb, eqb-true}
use Rattle.model.specs.declared.text.Shape.{Shape}
use Rattle.model.specs.declared.text.Shape.TheVariants.{Spaces, Zero, Digits, Sign, Signed, Wrong}
use Rattle.model.specs.declared.text.Field.{Field}
use Rattle.model.specs.declared.text.Field.TheVariants.{Blank, Number, Negative, Misshapen}
use Rattle.model.specs.Text.{space, last_byte, shape_before, columns_set, field_set}
use Rattle.model.specs.Lines.{column_of, width_of, word_set}
use Rattle.written_line.specs.Cleared.{digit_shape, left_shape, SameBefore, Cleared, ClearedFrom}
use Rattle.columns.proofs.FieldColumns.{columns-fit}
use Rattle.written_line.proofs.OtherColumns.{field-kept}

-- one column more, as the code counts
columns-step : (s : List ℕ) (at i : ℕ) (f : Shape) (v : ℕ) → 0 < i → columns_set s at i f v ≡ columns_set (set s (at + (i - 1)) (last_byte f v)) at (i - 1) (shape_before f v) (v / 10)
unfolding columns_set
columns-step s at zero f v h = absurd (not-suc-le-zero h)
columns-step s at (suc i) f v h = simp unary_clauses

-- where no column is left, nothing is set
pub no-column : (s : List ℕ) (at i : ℕ) (f g : Shape) (u v : ℕ) → i ≡ 0 → columns_set s at 0 f u ≡ columns_set s at i g v
unfolding columns_set
no-column s at i f g u v e = rw e

-- ---- spaces that stay
-- a shape that is written as spaces alone
shape-stays : (f : Shape) → ((u : ℕ) → last_byte f u ≡ space) → ((u : ℕ) → shape_before f u ≡ f) → (s : List ℕ) (at n v : ℕ) → Cleared s at n → columns_set s at n f v ≡ s
unfolding Cleared columns_set
shape-stays f last before s at zero v c = refl
shape-stays f last before s at (suc n) v c = rw (last v, before v, ← c n (omega arith), set-get_or s (at + n) 0) (shape-stays f last before s at n (v / 10) (λ i h. c i (omega arith)))

spaces-stay : (s : List ℕ) (at n v : ℕ) → Cleared s at n → columns_set s at n Spaces v ≡ s
spaces-stay = shape-stays Spaces (λ u. refl) (λ u. refl)

wrong_stays : (s : List ℕ) (at n v : ℕ) → Cleared s at n → columns_set s at n Wrong v ≡ s
wrong_stays = shape-stays Wrong (λ u. refl) (λ u. refl)

-- ---- digits
pub digit-more : (negative : Bool) (s : List ℕ) (at i u : ℕ) → 0 < i → 10 ≤ u → columns_set (set s (at + (i - 1)) (48 + u % 10)) at (i - 1) (digit_shape negative (u / 10)) (u / 10) ≡ columns_set s at i (digit_shape negative u) u
digit-more true s at i u h l = sym (columns-step s at i Signed u h ∙ rw (le-ltb u 10 l))
digit-more false s at i u h l =
    rw (ne_eqb (u / 10) 0 (λ e. omega arith), ne_eqb u 0 (λ e. omega arith)) (sym (columns-step s at i Digits u h ∙ rw (le-ltb u 10 l)))

pub digit-last : (negative : Bool) (s : List ℕ) (at i u : ℕ) → 0 < i → u / 10 ≡ 0 → columns_set (set s (at + (i - 1)) (48 + u % 10)) at (i - 1) (left_shape negative) 0 ≡ columns_set s at i (digit_shape negative u) u
digit-last negative s at i u h z = go negative (eqb u 0) refl
  where
    l : u < 10
    l = omega arith

    go : (negative b : Bool) → eqb u 0 ≡ b → columns_set (set s (at + (i - 1)) (48 + u % 10)) at (i - 1) (left_shape negative) 0 ≡ columns_set s at i (cond negative Signed (cond b Zero Digits)) u
    go true b e = sym (columns-step s at i Signed u h ∙ rw (lt-ltb u 10 l, z))
    go false true e = let o : u ≡ 0 = omega (arith, eqb-true u 0 e) in sym (columns-step s at i Zero u h ∙ rw (z, o))
    go false false e = sym (columns-step s at i Digits u h ∙ rw (lt-ltb u 10 l, z))

pub same-all : (k : ℕ) (s : List ℕ) → SameBefore k s s
unfolding SameBefore
same-all k s j h = refl

pub same-fewer : (k m : ℕ) (s t : List ℕ) → k ≤ m → SameBefore m s t → SameBefore k s t
unfolding SameBefore
same-fewer k m s t h f j l = f j (omega arith)

-- a byte more is set
pub same-before : (at i b : ℕ) (s t : List ℕ) → 0 < i → SameBefore (at + i) s t → SameBefore (at + (i - 1)) (set s (at + (i - 1)) b) t
unfolding SameBefore
same-before at i b s t h f j l = get_or-set_other s (at + (i - 1)) j b 0 (λ e. omega arith) ∙ f j (omega arith)

-- ---- a line that is cleared
-- a line of spaces
pub cleared : (n : ℕ) → 39 ≤ n → ClearedFrom 0 (replicate n space)
unfolding ClearedFrom
cleared n h i l b = get_or-replicate n i space 0 (omega arith)

-- four bytes put in the place of the first
pub word-put : (l t : List ℕ) → 4 ≤ length l → length t ≡ 4 → t ++ drop 4 l ≡ word_set l t
unfolding word_set
word-put (x ∷ y ∷ z ∷ u ∷ l) (a ∷ b ∷ c ∷ d ∷ []) h g = refl
word-put [] t h g = absurd (omega arith)
word-put (x ∷ []) t h g = absurd (omega arith)
word-put (x ∷ y ∷ []) t h g = absurd (omega arith)
word-put (x ∷ y ∷ z ∷ []) t h g = absurd (omega arith)
word-put l [] h g = absurd (omega arith)
word-put l (a ∷ []) h g = absurd (omega arith)
word-put l (a ∷ b ∷ []) h g = absurd (omega arith)
word-put l (a ∷ b ∷ c ∷ []) h g = absurd (omega arith)
word-put l (a ∷ b ∷ c ∷ d ∷ e ∷ t) h g = absurd (omega arith)

cleared-word-byte : (l t : List ℕ) (j : ℕ) → 4 ≤ j → get_or (word_set l t) j 0 ≡ get_or l j 0
unfolding word_set
cleared-word-byte l t j h =
    get_or-set_other (set (set (set l 0 (get_or t 0 0)) 1 (get_or t 1 0)) 2 (get_or t 2 0)) 3 j (get_or t 3 0) 0 (λ e. omega arith)
    ∙ get_or-set_other (set (set l 0 (get_or t 0 0)) 1 (get_or t 1 0)) 2 j (get_or t 2 0) 0 (λ e. omega arith)
    ∙ get_or-set_other (set l 0 (get_or t 0 0)) 1 j (get_or t 1 0) 0 (λ e. omega arith)
    ∙ get_or-set_other l 0 j (get_or t 0 0) 0 (λ e. omega arith)

pub cleared-word : (l t m : List ℕ) → m ≡ word_set l t → ClearedFrom 0 l → ClearedFrom 4 m
unfolding ClearedFrom
cleared-word l t m e c i h b = rw e (cleared-word-byte l t i h ∙ c i (omega arith) b)

pub cleared-field : (l : List ℕ) (j : ℕ) → j < 6 → ClearedFrom (column_of j) l → Cleared l (column_of j) (width_of j)
unfolding ClearedFrom Cleared
cleared-field l j h c i b = c (column_of j + i) (omega arith) (omega (arith, (columns-fit j h).0))

pub cleared-after : (l : List ℕ) (j : ℕ) (f : Field) (m : List ℕ) → m ≡ field_set l (column_of j) (width_of j) f → ClearedFrom (column_of j) l → ClearedFrom (column_of j + width_of j) m
unfolding ClearedFrom
cleared-after l j f m e c i h b = rw e (field-kept l (column_of j) (width_of j) f i (λ k d q. omega arith) ∙ c i (omega arith) b)

-- ---- fields of columns that are spaces
module _ (s : List ℕ) (at n : ℕ) (c : Cleared s at n) where
  pub minus-none : n ≤ 0 → s ≡ columns_set s at n Sign 0
  unfolding columns_set
  minus-none h = let e : n ≡ 0 = omega arith in rw e

  pub minus-set : 0 < n → set s (at + (n - 1)) 45 ≡ columns_set s at n Sign 0
  unfolding Cleared
  minus-set h = sym (columns-step s at n Sign 0 h ∙ spaces-stay (set s (at + (n - 1)) 45) at (n - 1) (0 / 10) (λ i l. get_or-set_other s (at + (n - 1)) (at + i) 45 0 (λ e. omega arith) ∙ c i (omega arith)))

  pub blank-stays : s ≡ field_set s at n Blank
  unfolding field_set
  blank-stays = sym (spaces-stay s at n 0 c)

  pub misshapen-stays : s ≡ field_set s at n Misshapen
  unfolding field_set
  misshapen-stays = sym (wrong_stays s at n 0 c)

  pub minus-on-zero : (v : ℕ) → v ≡ 0 → s ≡ field_set s at n (Negative v)
  unfolding field_set
  minus-on-zero v e = rw (eq-eqb v 0 e) (sym (wrong_stays s at n v c))

  module _ (v r : ℕ) (t : List ℕ) (h : r ≤ n) (digits : (negative : Bool) → columns_set t at r (left_shape negative) 0 ≡ columns_set s at n (digit_shape negative v) v) (before : SameBefore (at + r) t s) where
    pub left-cleared : Cleared t at r
    unfolding Cleared SameBefore
    left-cleared i l = before (at + i) (omega arith) ∙ c i (omega arith)

    pub number-set : t ≡ field_set s at n (Number v)
    unfolding field_set
    number-set = sym (spaces-stay t at r 0 left-cleared) ∙ digits false

    pub negative-set : (v ≡ 0 → ⊥) → (u : List ℕ) → u ≡ columns_set t at r Sign 0 → u ≡ field_set s at n (Negative v)
    unfolding field_set
    negative-set o u e = rw (ne_eqb v 0 o) (e ∙ digits true)
