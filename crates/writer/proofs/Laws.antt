-- The two laws of the writer: what it writes is read back, and what is read is what it writes. Assumes nothing.
use Prim.Native.Nat.{ℕ, ◌+◌, ◌*◌, ◌-◌, ◌<◌, ◌≤◌}
use native.Mathlib.Omega.{arith}
use native.Mathlib.Decide.{dec_lt}
use mathlib.Core.Path.{◌≡◌, refl, sym, ap, ◌∙◌}
use mathlib.Core.Bool.{Bool, true, false, cond, false≢true}
use mathlib.Core.List.{List, ◌++◌}
use mathlib.Core.Logic.{inl, inr}
use lib.ListN.{length, get_or, take, drop, length-take, length-drop, length-append, get_or-append}
use lib.Seq.{take_at, drop_at, length-take-le, get_or-take, get_or-drop, get_or-append-add, ext_get_or}
use lib.Dec.{eqb}
use borrow.Author.Tests.{eqb-true}
use Rattle.model.specs.declared.text.Field.{Field}
use Rattle.model.specs.declared.text.Word.{Word}
use Rattle.model.specs.declared.text.Word.TheVariants.{Stop, Setc, Copy, Addw, Subw, Mulw, Divf, Load, Stor, Jump, Bltu, Bequ, Leas, Most, Strp, Divm, Turn}
use Rattle.std.specs.Prelude.{Option, Ok, None, Some, Err}
use Rattle.model.specs.declared.answers.Refusal.TheVariants.{LineBytes}
use Rattle.model.specs.declared.claims.Line.TheVariants.{Refused as refused_line}
use Rattle.model.specs.Types.{Judgement, accepted}
use Rattle.model.specs.Limits.{line_bytes, today}
use Rattle.model.specs.Text.{line_end}
use Rattle.model.specs.Answers.{is_refused, ◌and_then◌}
use Rattle.model.specs.Words.{words, begins, word_among, shaped, allowed}
use Rattle.model.specs.Lists.{every_below}
use Rattle.model.specs.Lines.{printable, well_spelled, width_of, fields_in, field_at, kind_at, F1, F5, in_shape, in_limits, judged, line_from, line_or, line_found, read_line, line_set}
use Rattle.model.specs.Listing.{line_at}
use Rattle.model.specs.Writing.{word_of, room_for, line_judged, with_line, listing_if, listing_set, is_taken, OutsideLine, ReadBack, WrittenIsRead, ReadIsWritten}
use Rattle.model.proofs.Tests.{and_right, every-below}
use Rattle.model.proofs.Reading.{both-accepted}
use Rattle.written_line.specs.Columns.{Fits}
use Rattle.lines.proofs.AcceptedFields.{fields-accepted}
use Rattle.writer.proofs.LineJudged.{word-four, found, room-bounds}
use Rattle.writer.proofs.FieldsFit.{accepted-fits, fits-taken}
use Rattle.written_line.proofs.LineFields.{begins-with, word_same, length-line, line_word, line-fields, line-again, line-alike}
use Rattle.writer.proofs.Spelling.{line-spelled}

-- ---- a line of a listing
-- it has 40 bytes
pub cut : (k : ℕ) → k * line_bytes + line_bytes - k * line_bytes ≡ line_bytes
cut k = omega arith

byte_at : (s : List ℕ) (k i : ℕ) → i < line_bytes → get_or (line_at s k) i 0 ≡ get_or s (k * line_bytes + i) 0
byte_at s k i h = get_or-take line_bytes (drop (k * line_bytes) s) i 0 h ∙ get_or-drop (k * line_bytes) s i 0

module _ (s : List ℕ) (k : ℕ) (t : List ℕ) (fs : List Field) (h : k * line_bytes + line_bytes ≤ length s) where
  length_before : length (take (k * line_bytes) s) ≡ k * line_bytes
  length_before = length-take-le (k * line_bytes) s (omega arith)

  pub length_at : length (line_at s k) ≡ line_bytes
  length_at = length-take-le line_bytes (drop (k * line_bytes) s) (rw length-drop (omega arith))

  length-set : length (line_set (line_at s k) t fs) ≡ line_bytes
  length-set = length-line (line_at s k) t fs ∙ length_at

  pub line-within : line_at (with_line s k t fs) k ≡ line_set (line_at s k) t fs
  unfolding with_line
  line-within =
      ap (take line_bytes) (drop_at (take (k * line_bytes) s) (line_set (line_at s k) t fs ++ drop line_bytes (drop (k * line_bytes) s)) (k * line_bytes) length_before)
      ∙ take_at (line_set (line_at s k) t fs) (drop line_bytes (drop (k * line_bytes) s)) line_bytes length-set

  pub length-within : length (with_line s k t fs) ≡ length s
  unfolding with_line
  length-within = rw (length-append, length-append, length_before, length-set, length-drop, length-drop) (omega arith)

  pub before-within : (j : ℕ) → j < k * line_bytes → get_or (with_line s k t fs) j 0 ≡ get_or s j 0
  unfolding with_line
  before-within j b =
      get_or-append (take (k * line_bytes) s) (line_set (line_at s k) t fs ++ drop line_bytes (drop (k * line_bytes) s)) 0 j (rw length_before b)
      ∙ get_or-take (k * line_bytes) s j 0 b

  after-within : (i : ℕ) → get_or (with_line s k t fs) (k * line_bytes + (line_bytes + i)) 0 ≡ get_or s (k * line_bytes + (line_bytes + i)) 0
  unfolding with_line
  after-within i =
      let first = get_or-append-add (take (k * line_bytes) s) (line_set (line_at s k) t fs ++ drop line_bytes (drop (k * line_bytes) s)) (line_bytes + i) 0 in
      let second = get_or-append-add (line_set (line_at s k) t fs) (drop line_bytes (drop (k * line_bytes) s)) i 0 in
      (rw length_before at first) ∙ (rw length-set at second) ∙ get_or-drop line_bytes (drop (k * line_bytes) s) i 0 ∙ get_or-drop (k * line_bytes) s (line_bytes + i) 0

  pub beyond-within : (j : ℕ) → k * line_bytes + line_bytes ≤ j → get_or (with_line s k t fs) j 0 ≡ get_or s j 0
  beyond-within j b =
      let e : k * line_bytes + (line_bytes + (j - (k * line_bytes + line_bytes))) ≡ j = omega arith in
      rw e at (after-within (j - (k * line_bytes + line_bytes)))

  pub others-within : (j : ℕ) → (j ≡ k → ⊥) → line_at (with_line s k t fs) j ≡ line_at s j
  others-within j other = ext_get_or 0 (line_at (with_line s k t fs) j) (line_at s j) (simp (length-take, length-drop, length-within)) byte
    where
      kept : (i : ℕ) → i < line_bytes → Dec (j < k) → get_or (with_line s k t fs) (j * line_bytes + i) 0 ≡ get_or s (j * line_bytes + i) 0
      kept i h (yes b) = before-within (j * line_bytes + i) (omega arith)
      kept i h (no b) = beyond-within (j * line_bytes + i) (omega arith)

      byte : (i : ℕ) → i < length (line_at (with_line s k t fs) j) → get_or (line_at (with_line s k t fs) j) i 0 ≡ get_or (line_at s j) i 0
      byte i h =
          let b : i < line_bytes = omega (arith, length-take line_bytes (drop (j * line_bytes) (with_line s k t fs))) in
          byte_at (with_line s k t fs) j i b ∙ kept i b (dec_lt j k) ∙ sym (byte_at s j i b)

-- ---- the judgement
-- accepted fields fit
pub fields_fit : (place : ℕ) (w : Word) (fs : List Field) → judged today place (Some w) fs ≡ accepted → (j : ℕ) → j < 6 → Fits (width_of j) (field_at fs j)
unfolding in_shape in_limits
fields_fit place w fs e j h =
    let (shape, limits, differ) = fields-accepted place w fs e in
    accepted-fits w j h (F1 fs) (F5 fs) (field_at fs j)
    (every-below (λ (i : ℕ). shaped (kind_at w i) (field_at fs i)) 6 shape j h)
    (every-below (λ (i : ℕ). allowed today (kind_at w i) (F1 fs) (F5 fs) (field_at fs i)) 6 limits j h)

-- the place does not matter
judged-anywhere : (place place' : ℕ) (w : Word) (fs : List Field) → judged today place (Some w) fs ≡ accepted → judged today place' (Some w) fs ≡ accepted
unfolding judged
judged-anywhere place place' w fs e = let (shape, limits, differ) = fields-accepted place w fs e in rw (shape, limits, differ)

-- every word gives a claim or an instruction
word-taken : (w : Word) (fs : List Field) → is_taken (line_from w fs) ≡ true
word-taken Stop fs = refl
word-taken Setc fs = refl
word-taken Copy fs = refl
word-taken Addw fs = refl
word-taken Subw fs = refl
word-taken Mulw fs = refl
word-taken Divf fs = refl
word-taken Load fs = refl
word-taken Stor fs = refl
word-taken Jump fs = refl
word-taken Bltu fs = refl
word-taken Bequ fs = refl
word-taken Leas fs = refl
word-taken Most fs = refl
word-taken Strp fs = refl
word-taken Divm fs = refl
word-taken Turn fs = refl

-- a line that the reader takes, and why it takes it
record Read (l : List ℕ) : Type 0 where
  word : Word
  spelled : well_spelled l ≡ true
  named : word_among words l ≡ Some word
  fields : (place : ℕ) → judged today place (Some word) (fields_in l) ≡ accepted

taken-line : (place : ℕ) (l : List ℕ) → Read l → is_taken (read_line today place l) ≡ true
unfolding read_line
taken-line place l r = rw (r.spelled, r.named, r.fields place) (word-taken r.word (fields_in l))

module _ (place : ℕ) (l : List ℕ) (s : well_spelled l ≡ true) where
  by-judgement : (w : Word) → word_among words l ≡ Some w → (j : Judgement) → judged today place (Some w) (fields_in l) ≡ j → is_taken (line_or j (line_from w (fields_in l))) ≡ true → Read l
  by-judgement w q (Ok u) a e = record { word = w; spelled = s; named = q; fields = λ p. judged-anywhere place p w (fields_in l) a }
  by-judgement w q (Err r) a e = absurd (false≢true e)

  by_word : (f : Option Word) → word_among words l ≡ f → is_taken (line_found today place f (fields_in l)) ≡ true → Read l
  unfolding judged
  by_word None q e = absurd (false≢true e)
  by_word (Some w) q e = by-judgement w q (judged today place (Some w) (fields_in l)) refl e

line_taken : (place : ℕ) (l : List ℕ) → is_taken (read_line today place l) ≡ true → Read l
unfolding read_line
line_taken place l e = go (well_spelled l) refl e
  where
    go : (b : Bool) → well_spelled l ≡ b → is_taken (cond b (line_found today place (word_among words l) (fields_in l)) (refused_line (LineBytes place))) ≡ true → Read l
    go true s e = by_word place l s (word_among words l) refl e
    go false s e = absurd (false≢true e)

-- ---- the call
-- a call that nothing turns back
record Set (t : List ℕ) (fs : List Field) (n : ℕ) (s : List ℕ) : Type 0 where
  word : Word
  named : word_of t ≡ Some word
  fields : judged today n (Some word) fs ≡ accepted
  first : 1 ≤ n
  room : n * line_bytes ≤ length s
  after : listing_set t fs n s ≡ with_line s (n - 1) t fs

call-set : (t : List ℕ) (fs : List Field) (n : ℕ) (s : List ℕ) → line_judged t fs n s ≡ accepted → Set t fs n s
unfolding line_judged listing_set listing_if judged
call-set t fs n s e = go (word_of t) refl e
  where
    go : (f : Option Word) → word_of t ≡ f → (judged today n f fs and_then room_for n (length s)) ≡ accepted → Set t fs n s
    go None q a = let z : ◌≡◌ {A = ℕ} 0 1 = cc in absurd (omega arith)
    go (Some w) q a =
        let (fields, room) = both-accepted (judged today n (Some w) fs) (room_for n (length s)) a in
        let (first, fits) = room-bounds n (length s) (ap is_refused room) in
        record { word = w; named = q; fields = fields; first = first; room = fits; after = rw e }

-- the word of four bytes
four_bytes : (t : List ℕ) (w : Word) → word_of t ≡ Some w → length t ≡ 4
unfolding word_of
four_bytes t w e = go (eqb (length t) 4) refl e
  where
    go : (b : Bool) → eqb (length t) 4 ≡ b → cond b (word_among words t) None ≡ Some w → length t ≡ 4
    go true q e = eqb-true _ _ q
    go false q e = let z : ◌≡◌ {A = ℕ} 0 1 = cc in absurd (omega arith)

-- the line that is set, in any forty bytes
line_read : (l t : List ℕ) (fs : List Field) (w : Word) → length l ≡ line_bytes → length fs ≡ 6 → word_of t ≡ Some w → (n : ℕ) → judged today n (Some w) fs ≡ accepted
    → (fields_in (line_set l t fs) ≡ fs) × (word_among words (line_set l t fs) ≡ word_of t) × Read (line_set l t fs)
line_read l t fs w e six q n j =
    let fit = fields_fit n w fs j in
    let fields = line-fields l t fs e six fit in
    let word = word_same words (line_set l t fs) t (line_word l t fs e) ∙ word-four t (four_bytes t w q) in
    (fields, word, record { word = w; spelled = line-spelled l t fs w e (found t w q) fit; named = word ∙ q; fields = λ p. rw fields (judged-anywhere n p w fs j) })

module _ (t : List ℕ) (fs : List Field) (n : ℕ) (s : List ℕ) (c : Set t fs n s) where
  inside : (n - 1) * line_bytes + line_bytes ≤ length s
  inside = omega (arith, c.first, c.room)

  line_after_lem : line_at (listing_set t fs n s) (n - 1) ≡ line_set (line_at s (n - 1)) t fs
  line_after_lem = rw c.after (line-within s (n - 1) t fs inside)

  others-stay : (j : ℕ) → OutsideLine n j → get_or (listing_set t fs n s) j 0 ≡ get_or s j 0
  others-stay j (inl b) = rw c.after (before-within s (n - 1) t fs inside j b)
  others-stay j (inr b) = rw c.after (beyond-within s (n - 1) t fs inside j (omega (arith, c.first)))

  read_back : length fs ≡ 6 → ReadBack t fs n s
  read_back six =
      let (fields, word, read) = line_read (line_at s (n - 1)) t fs c.word (length_at s (n - 1) t fs inside) six c.named n c.fields in
      record {
        taken = λ p. rw line_after_lem (taken-line p (line_set (line_at s (n - 1)) t fs) read);
        word = rw line_after_lem word;
        fields = rw line_after_lem fields;
        size = rw c.after (length-within s (n - 1) t fs inside);
        others = others-stay;
      }

pub written-is-read : WrittenIsRead
written-is-read t fs n s six e = read_back t fs n s (call-set t fs n s e) six

-- a line begins with its first four bytes
begins-first : (l : List ℕ) → begins l (take 4 l) ≡ true
begins-first l = begins-with l (take 4 l) (λ i h. sym (get_or-take 4 l i 0 h))

-- a line that is well spelled ends
ended : (l : List ℕ) → well_spelled l ≡ true → get_or l 39 0 ≡ line_end
unfolding well_spelled
ended l e = eqb-true _ _ (and_right (every_below (λ (j : ℕ). printable (get_or l j 0)) 39) _ e)

-- the first four bytes of a line are its word
word-of-line : (l : List ℕ) (w : Word) → length l ≡ line_bytes → word_among words l ≡ Some w → word_of (take 4 l) ≡ Some w
word-of-line l w e q = sym (word-four (take 4 l) (length-take-le 4 l (omega arith))) ∙ word_same words (take 4 l) l (λ i h. get_or-take 4 l i 0 h) ∙ q

pub read-is-written : ReadIsWritten
unfolding line_judged
read-is-written place l e taken n s room =
    let r = line_taken place l taken in
    let w = word-of-line l r.word e r.named in
    let j : line_judged (take 4 l) (fields_in l) n s ≡ accepted = rw (w, r.fields n, room) in
    let c = call-set (take 4 l) (fields_in l) n s j in (
      j,
      line_after_lem (take 4 l) (fields_in l) n s c
          ∙ line-alike (line_at s (n - 1)) l (take 4 l) (fields_in l) (length_at s (n - 1) (take 4 l) (fields_in l) (inside (take 4 l) (fields_in l) n s c)) e
          ∙ line-again l (take 4 l) (begins-first l) (ended l r.spelled) (λ i h. fits-taken _ _ (fields_fit place r.word (fields_in l) (r.fields place) i h)),
    )
