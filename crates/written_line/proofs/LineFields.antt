-- The word and the fields of a line that is set: each is read again, every line that is read is set again, and what stood there does not matter. Assumes nothing.
use Prim.Native.Nat.{ℕ, zero, suc, ◌+◌, ◌-◌, ◌<◌, ◌≤◌}
use native.Mathlib.Nat.{not-suc-le-zero}
use native.Mathlib.Omega.{arith}
use native.Mathlib.Decide.{ℕ_discrete}
use mathlib.Core.Path.{◌≡◌, refl, sym, ◌∙◌}
use mathlib.Core.Bool.{Bool, true, false, ◌&&◌}
use mathlib.Core.List.{List, [], ◌∷◌}
use lib.ListN.{get_or, set, length, length-set}
use lib.Seq.{get_or-set_same, get_or-set_other, set-get_or, ext_get_or}
use lib.Dec.{leb, eqb}
use borrow.Author.Tests.{eqb-true, leb-true, leb-false, eq-eqb, ne_eqb}
use Rattle.model.specs.declared.text.Field.{Field}
use Rattle.model.specs.declared.text.Word.{Word}
use Rattle.model.specs.Text.{line_end, field_of}
use Rattle.model.specs.Words.{text_of, begins, word_among}
use Rattle.model.specs.Lines.{column_of, width_of, fields_in, field_at, word_set, fields_set, line_set}
use Rattle.model.proofs.Tests.{and_left, and_right}
use Rattle.written_line.specs.Columns.{Fits, Taken}
use Rattle.columns.proofs.FieldColumns.{columns-fit}
use Rattle.written_line.proofs.OtherColumns.{length-field, field-kept, field_alike}
use Rattle.written_line.proofs.ColumnsRead.{field-read, field-same}
use Rattle.written_line.proofs.ColumnsSetAgain.{field-set}

-- all but the last field have four columns
width-before : (j n : ℕ) → j < n → n < 6 → width_of j ≡ 4
unfolding width_of
width-before j n h b = rw (ne_eqb j 5 (λ e. omega arith))

-- ---- the first n fields
module _ (l : List ℕ) (fs : List Field) where
  pub length_fields : (n : ℕ) → length (fields_set l fs n) ≡ length l
  length_fields zero = refl
  length_fields (suc n) = length-field (fields_set l fs n) (column_of n) (width_of n) (field_at fs n) ∙ length_fields n

  pub fields-kept : (n j : ℕ) → n ≤ 6 → ((i : ℕ) → 4 ≤ i → i < 39 → j ≡ i → ⊥) → get_or (fields_set l fs n) j 0 ≡ get_or l j 0
  fields-kept zero j h out = refl
  fields-kept (suc n) j h out =
      field-kept (fields_set l fs n) (column_of n) (width_of n) (field_at fs n) j (λ i b e. out (column_of n + i) (omega arith) (omega (arith, (columns-fit n (omega arith)).0)) e)
      ∙ fields-kept n j (omega arith) out

  pub fields_read : (n : ℕ) → length l ≡ 40 → n ≤ 6 → ((j : ℕ) → j < 6 → Fits (width_of j) (field_at fs j)) → (j : ℕ) → j < n → field_of (fields_set l fs n) (column_of j) (width_of j) ≡ field_at fs j
  fields_read zero e b fit j h = absurd (not-suc-le-zero h)
  fields_read (suc n) e b fit j h = go (ℕ_discrete j n) (fields_read n e (omega arith) fit j)
    where
      go : Dec (j ≡ n) → (j < n → field_of (fields_set l fs n) (column_of j) (width_of j) ≡ field_at fs j) → field_of (fields_set l fs (suc n)) (column_of j) (width_of j) ≡ field_at fs j
      go (yes q) f = rw q (field-read (fields_set l fs n) (column_of n) (width_of n) (field_at fs n) (rw (length_fields n) (omega (arith, (columns-fit n (omega arith)).0))) (fit n (omega arith)))
      go (no q) f =
          field-same (fields_set l fs (suc n)) (fields_set l fs n) (column_of j) (width_of j)
          (λ i c. field-kept (fields_set l fs n) (column_of n) (width_of n) (field_at fs n) (column_of j + i) (λ k d e. omega (arith, width-before j n (omega arith) (omega arith)))) ∙ f (omega arith)

  pub fields-set : (n : ℕ) → ((j : ℕ) → j < n → (field_at fs j ≡ field_of l (column_of j) (width_of j)) × Taken (field_of l (column_of j) (width_of j))) → fields_set l fs n ≡ l
  fields-set zero h = refl
  fields-set (suc n) h =
      let p = h n (omega arith) in
      rw (fields-set n (λ j b. h j (omega arith)), p.0) (field-set l (column_of n) (width_of n) p.1)

-- the columns of the word and of the first n fields
abbrev columns_to : ℕ → ℕ
columns_to zero = 4
columns_to (suc n) = column_of n + width_of n

columns-reach : (n : ℕ) → n < 6 → column_of n ≤ columns_to n
columns-reach zero h = omega arith
columns-reach (suc n) h = omega (arith, width-before n (suc n) (omega arith) h)

fields-alike : (l m : List ℕ) (fs : List Field) → length l ≡ 40 → length m ≡ 40 → ((j : ℕ) → j < 4 → get_or l j 0 ≡ get_or m j 0) → (n : ℕ) → n ≤ 6 → (j : ℕ) → j < columns_to n → get_or (fields_set l fs n) j 0 ≡ get_or (fields_set m fs n) j 0
fields-alike l m fs e e' same zero b j h = same j h
fields-alike l m fs e e' same (suc n) b j h = go (leb (column_of n) j) refl (fields-alike l m fs e e' same n (omega arith) j)
  where
    fit : (k : List ℕ) → length k ≡ 40 → column_of n + width_of n ≤ length (fields_set k fs n)
    fit k q = rw (length_fields k fs n) (omega (arith, (columns-fit n (omega arith)).0))

    go : (b : Bool) → leb (column_of n) j ≡ b → (j < columns_to n → get_or (fields_set l fs n) j 0 ≡ get_or (fields_set m fs n) j 0) → get_or (fields_set l fs (suc n)) j 0 ≡ get_or (fields_set m fs (suc n)) j 0
    go true p f =
        let q : column_of n ≤ j = leb-true (column_of n) j p in
        let i : column_of n + (j - column_of n) ≡ j = omega arith in
        rw i at (field_alike (fields_set l fs n) (column_of n) (width_of n) (field_at fs n) (fields_set m fs n) (fit l e) (fit m e') (j - column_of n) (omega arith))
    go false p f =
        let q : j < column_of n = leb-false (column_of n) j p in
        field-kept (fields_set l fs n) (column_of n) (width_of n) (field_at fs n) j (λ i c d. omega arith)
        ∙ f (omega (arith, columns-reach n (omega arith)))
        ∙ sym (field-kept (fields_set m fs n) (column_of n) (width_of n) (field_at fs n) j (λ i c d. omega arith))

-- ---- the word
-- the four bytes that a line begins with
pub bytes-of-word : (t u : List ℕ) → begins t u ≡ true → (get_or t 0 0 ≡ get_or u 0 0) × (get_or t 1 0 ≡ get_or u 1 0) × (get_or t 2 0 ≡ get_or u 2 0) × (get_or t 3 0 ≡ get_or u 3 0)
unfolding begins
bytes-of-word t u e =
    let abc = and_left (eqb (get_or t 0 0) (get_or u 0 0) && eqb (get_or t 1 0) (get_or u 1 0) && eqb (get_or t 2 0) (get_or u 2 0)) _ e in
    let d = and_right (eqb (get_or t 0 0) (get_or u 0 0) && eqb (get_or t 1 0) (get_or u 1 0) && eqb (get_or t 2 0) (get_or u 2 0)) _ e in
    let ab = and_left (eqb (get_or t 0 0) (get_or u 0 0) && eqb (get_or t 1 0) (get_or u 1 0)) _ abc in
    let c = and_right (eqb (get_or t 0 0) (get_or u 0 0) && eqb (get_or t 1 0) (get_or u 1 0)) _ abc in
    (eqb-true _ _ (and_left (eqb (get_or t 0 0) (get_or u 0 0)) _ ab), eqb-true _ _ (and_right (eqb (get_or t 0 0) (get_or u 0 0)) _ ab), eqb-true _ _ c, eqb-true _ _ d)

length-word : (l t : List ℕ) → length (word_set l t) ≡ length l
unfolding word_set
length-word l t = simp length-set

word-set : (l t : List ℕ) → 4 ≤ length l → (i : ℕ) → i < 4 → get_or (word_set l t) i 0 ≡ get_or t i 0
unfolding word_set
word-set [] t h i b = absurd (omega arith)
word-set (x ∷ []) t h i b = absurd (omega arith)
word-set (x ∷ (y ∷ [])) t h i b = absurd (omega arith)
word-set (x ∷ (y ∷ (z ∷ []))) t h i b = absurd (omega arith)
word-set (x ∷ (y ∷ (z ∷ (u ∷ l)))) t h zero b = refl
word-set (x ∷ (y ∷ (z ∷ (u ∷ l)))) t h (suc zero) b = refl
word-set (x ∷ (y ∷ (z ∷ (u ∷ l)))) t h (suc (suc zero)) b = refl
word-set (x ∷ (y ∷ (z ∷ (u ∷ l)))) t h (suc (suc (suc zero))) b = refl
word-set (x ∷ (y ∷ (z ∷ (u ∷ l)))) t h (suc (suc (suc (suc i)))) b = absurd (omega arith)

-- the word hangs on the first four bytes
begins-same : (s t u : List ℕ) → ((i : ℕ) → i < 4 → get_or s i 0 ≡ get_or t i 0) → begins s u ≡ begins t u
unfolding begins
begins-same s t u e = rw (e 0 (omega arith), e 1 (omega arith), e 2 (omega arith), e 3 (omega arith))

pub begins-itself : (t : List ℕ) → begins t t ≡ true
unfolding begins
begins-itself t = rw (eq-eqb (get_or t 0 0) _ refl, eq-eqb (get_or t 1 0) _ refl, eq-eqb (get_or t 2 0) _ refl, eq-eqb (get_or t 3 0) _ refl)

pub begins-with : (s t : List ℕ) → ((i : ℕ) → i < 4 → get_or s i 0 ≡ get_or t i 0) → begins s t ≡ true
begins-with s t e = begins-same s t t e ∙ begins-itself t

pub word_same : (ws : List Word) (s t : List ℕ) → ((i : ℕ) → i < 4 → get_or s i 0 ≡ get_or t i 0) → word_among ws s ≡ word_among ws t
unfolding word_among
word_same [] s t e = refl
word_same (w ∷ ws) s t e = rw (begins-same s t (text_of w) e, word_same ws s t e)

word-again : (l t : List ℕ) → begins l t ≡ true → word_set l t ≡ l
unfolding word_set
word-again l t e = let (a, b, c, d) = bytes-of-word l t e in rw (← a, ← b, ← c, ← d, set-get_or l 0 0, set-get_or l 1 0, set-get_or l 2 0, set-get_or l 3 0)

-- ---- the whole line
module _ (l t : List ℕ) (fs : List Field) where
  pub length-line : length (line_set l t fs) ≡ length l
  unfolding line_set
  length-line = rw (length-set, length_fields, length-word)

  module _ (e : length l ≡ 40) where
    pub line-end : get_or (line_set l t fs) 39 0 ≡ line_end
    unfolding line_set
    line-end = get_or-set_same (fields_set (word_set l t) fs 6) 39 line_end 0 (rw (length_fields, length-word) (omega arith))

    pub line_word : (i : ℕ) → i < 4 → get_or (line_set l t fs) i 0 ≡ get_or t i 0
    unfolding line_set
    line_word i b =
        get_or-set_other (fields_set (word_set l t) fs 6) 39 i line_end 0 (λ q. omega arith)
        ∙ fields-kept (word_set l t) fs 6 i (omega arith) (λ k c d q. omega arith)
        ∙ word-set l t (omega arith) i b

    pub line-field : ((j : ℕ) → j < 6 → Fits (width_of j) (field_at fs j)) → (j : ℕ) → j < 6 → field_of (line_set l t fs) (column_of j) (width_of j) ≡ field_at fs j
    unfolding line_set
    line-field fit j h =
        field-same (line_set l t fs) (fields_set (word_set l t) fs 6) (column_of j) (width_of j)
        (λ i b. get_or-set_other (fields_set (word_set l t) fs 6) 39 (column_of j + i) line_end 0 (λ q. omega (arith, (columns-fit j h).0)))
        ∙ fields_read (word_set l t) fs 6 (length-word l t ∙ e) (omega arith) fit j h

-- six fields by their places
six-fields : (fs : List Field) → length fs ≡ 6 → (field_at fs 0 ∷ field_at fs 1 ∷ field_at fs 2 ∷ field_at fs 3 ∷ field_at fs 4 ∷ field_at fs 5 ∷ []) ≡ fs
six-fields [] e = absurd (omega arith)
six-fields (a ∷ []) e = absurd (omega arith)
six-fields (a ∷ (b ∷ [])) e = absurd (omega arith)
six-fields (a ∷ (b ∷ (c ∷ []))) e = absurd (omega arith)
six-fields (a ∷ (b ∷ (c ∷ (d ∷ [])))) e = absurd (omega arith)
six-fields (a ∷ (b ∷ (c ∷ (d ∷ (f ∷ []))))) e = absurd (omega arith)
six-fields (a ∷ (b ∷ (c ∷ (d ∷ (f ∷ (g ∷ [])))))) e = refl
six-fields (a ∷ (b ∷ (c ∷ (d ∷ (f ∷ (g ∷ (h ∷ fs))))))) e = absurd (omega arith)

-- a line that is set is read as its fields
pub line-fields : (l t : List ℕ) (fs : List Field) → length l ≡ 40 → length fs ≡ 6 → ((j : ℕ) → j < 6 → Fits (width_of j) (field_at fs j)) → fields_in (line_set l t fs) ≡ fs
unfolding fields_in
line-fields l t fs e six fit =
    let at = line-field l t fs e fit in
    rw (at 0 (omega arith), at 1 (omega arith), at 2 (omega arith), at 3 (omega arith), at 4 (omega arith), at 5 (omega arith)) (six-fields fs six)

-- field j of those that are read
pub field_in : (l : List ℕ) (j : ℕ) → j < 6 → field_at (fields_in l) j ≡ field_of l (column_of j) (width_of j)
unfolding fields_in
field_in l zero h = refl
field_in l (suc zero) h = refl
field_in l (suc (suc zero)) h = refl
field_in l (suc (suc (suc zero))) h = refl
field_in l (suc (suc (suc (suc zero)))) h = refl
field_in l (suc (suc (suc (suc (suc zero))))) h = refl
field_in l (suc (suc (suc (suc (suc (suc j)))))) h = absurd (omega arith)

-- a line that is read is set again as it is
pub line-again : (l t : List ℕ) → begins l t ≡ true → get_or l 39 0 ≡ line_end → ((j : ℕ) → j < 6 → Taken (field_at (fields_in l) j)) → line_set l t (fields_in l) ≡ l
unfolding line_set
line-again l t e nl taken =
    rw (word-again l t e, fields-set l (fields_in l) 6 (λ j h. (field_in l j h, rw (field_in l j h) at (taken j h)))) (rw (← nl) (set-get_or l 39 0))

-- whatever stood in its place
line_before : (l m t : List ℕ) (fs : List Field) → length l ≡ 40 → length m ≡ 40 → (i : ℕ) → i < 39 → get_or (line_set l t fs) i 0 ≡ get_or (line_set m t fs) i 0
unfolding line_set width_of
line_before l m t fs e e' i h =
    get_or-set_other (fields_set (word_set l t) fs 6) 39 i line_end 0 (λ q. omega arith)
    ∙ fields-alike (word_set l t) (word_set m t) fs (length-word l t ∙ e) (length-word m t ∙ e') (λ j b. word-set l t (omega arith) j b ∙ sym (word-set m t (omega arith) j b)) 6 (omega arith) i h
    ∙ sym (get_or-set_other (fields_set (word_set m t) fs 6) 39 i line_end 0 (λ q. omega arith))

pub line-alike : (l m t : List ℕ) (fs : List Field) → length l ≡ 40 → length m ≡ 40 → line_set l t fs ≡ line_set m t fs
line-alike l m t fs e e' = ext_get_or 0 (line_set l t fs) (line_set m t fs) (length-line l t fs ∙ e ∙ sym (length-line m t fs ∙ e')) byte
  where
    byte : (i : ℕ) → i < length (line_set l t fs) → get_or (line_set l t fs) i 0 ≡ get_or (line_set m t fs) i 0
    byte i h = go (ℕ_discrete i 39)
      where
        go : Dec (i ≡ 39) → get_or (line_set l t fs) i 0 ≡ get_or (line_set m t fs) i 0
        go (yes q) = rw q (line-end l t fs e ∙ sym (line-end m t fs e'))
        go (no q) = line_before l m t fs e e' i (omega (arith, length-line l t fs))

-- a line made of one that was cleared
pub line_made : (l m t : List ℕ) (fs : List Field) (w k : List ℕ) → length l ≡ 40 → length m ≡ 40 → w ≡ word_set l t → k ≡ fields_set w fs 6 → set k 39 line_end ≡ line_set m t fs
unfolding line_set
line_made l m t fs w k e e' q r = rw (r, q) (line-alike l m t fs e e')
