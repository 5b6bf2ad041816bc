-- The judgement of a call and the listing after it, test by test. Assumes nothing.
use Prim.Native.Nat.{ℕ, ◌*◌, ◌-◌, ◌≤◌, ◌<◌}
use native.Mathlib.Omega.{arith}
use mathlib.Core.Path.{◌≡◌, refl, sym, ap, ◌∙◌}
use mathlib.Core.Bool.{Bool, true, false, ◌&&◌, cond, false≢true}
use mathlib.Core.List.{List, [], ◌∷◌}
use lib.ListN.{length}
use lib.Dec.{leb, eqb}
use borrow.Author.Tests.{leb-true, le-leb, lt-leb, eq-eqb, ne_eqb}
use Rattle.model.specs.Limits.{line_bytes, greatest_lines, today}
use Rattle.model.specs.declared.text.Field.{Field}
use Rattle.model.specs.declared.text.Word.{Word}
use Rattle.std.specs.Prelude.{None, Some, Ok, Err}
use Rattle.model.specs.declared.answers.Refusal.{Refusal}
use Rattle.model.specs.declared.answers.Refusal.TheVariants.{UnknownWord, NoRoom}
use Rattle.model.specs.Types.{Judgement, accepted}
use Rattle.model.specs.Answers.{is_refused, ◌and_then◌}
use Rattle.model.specs.Words.{text_of, words, begins, word_among}
use Rattle.model.specs.Lines.{judged, word_set, line_set}
use Rattle.model.specs.Writing.{word_of, room_for, line_judged, with_line, listing_if, listing_set}
use Rattle.model.proofs.Tests.{and_right}
use Rattle.model.proofs.Judgements.{is-accepted}
use Rattle.model.proofs.Reading.{both-accepted}
use Rattle.written_line.proofs.LineFields.{bytes-of-word}

-- ---- the word
pub word_none : (t : List ℕ) → (length t ≡ 4 → ⊥) → None ≡ word_of t
unfolding word_of
word_none t h = rw (ne_eqb _ _ h)

pub word-four : (t : List ℕ) → length t ≡ 4 → word_among words t ≡ word_of t
unfolding word_of
word-four t h = rw (eq-eqb _ _ h)

-- a line that begins with the word that is found
found_among : (ws : List Word) (l : List ℕ) (w : Word) → word_among ws l ≡ Some w → begins l (text_of w) ≡ true
unfolding word_among
found_among [] l w e = let z : ◌≡◌ {A = ℕ} 0 1 = cc in absurd (omega arith)
found_among (v ∷ ws) l w e = go (begins l (text_of v)) refl e (found_among ws l w)
  where
    go : (b : Bool) → begins l (text_of v) ≡ b → cond b (Some v) (word_among ws l) ≡ Some w → (word_among ws l ≡ Some w → begins l (text_of w) ≡ true) → begins l (text_of w) ≡ true
    go true q e f = let same : v ≡ w = cc in rw same at q
    go false q e f = f e

pub found : (t : List ℕ) (w : Word) → word_of t ≡ Some w → begins t (text_of w) ≡ true
unfolding word_of
found t w e = go (eqb (length t) 4) e
  where
    go : (b : Bool) → cond b (word_among words t) None ≡ Some w → begins t (text_of w) ≡ true
    go true e = found_among words t w e
    go false e = let z : ◌≡◌ {A = ℕ} 0 1 = cc in absurd (omega arith)

same_word : (l t u : List ℕ) → begins t u ≡ true → word_set l u ≡ word_set l t
unfolding word_set
same_word l t u e = let (a, b, c, d) = bytes-of-word t u e in rw (a, b, c, d)

same_line : (s : List ℕ) (k : ℕ) (t u : List ℕ) (fs : List Field) → begins t u ≡ true → with_line s k u fs ≡ with_line s k t fs
unfolding with_line line_set
same_line s k t u fs e = rw (same_word _ t u e)

-- ---- 18
pub room-none : (n size : ℕ) → (leb 1 n && leb n greatest_lines) ≡ false → Err NoRoom ≡ room_for n size
unfolding room_for
room-none n size e = rw e

pub room-short : (n size : ℕ) → (leb 1 n && leb n greatest_lines) ≡ true → size < n * line_bytes → Err NoRoom ≡ room_for n size
unfolding room_for
room-short n size e h = rw (e, lt-leb _ _ h)

pub room-enough : (n size : ℕ) → (leb 1 n && leb n greatest_lines) ≡ true → n * line_bytes ≤ size → accepted ≡ room_for n size
unfolding room_for
room-enough n size e h = rw (e, le-leb _ _ h)

pub room-line : (n : ℕ) → (leb 1 n && leb n greatest_lines) ≡ true → n ≤ greatest_lines
room-line n e = leb-true n greatest_lines (and_right (leb 1 n) _ e)

-- a line that there is room for
pub room-bounds : (n size : ℕ) → is_refused (room_for n size) ≡ false → (1 ≤ n) × (n * line_bytes ≤ size)
unfolding room_for
room-bounds n size e = go (leb 1 n) (leb n greatest_lines) (leb (n * line_bytes) size) refl refl e
  where
    go : (a b c : Bool) → leb 1 n ≡ a → leb (n * line_bytes) size ≡ c → is_refused (cond (a && b && c) accepted (Err NoRoom)) ≡ false → (1 ≤ n) × (n * line_bytes ≤ size)
    go true true true p r e = (leb-true _ _ p, leb-true _ _ r)
    go true true false p r e = absurd (false≢true (sym e))
    go true false c p r e = absurd (false≢true (sym e))
    go false b c p r e = absurd (false≢true (sym e))

-- the same of a line that the test of its room accepts
pub room-told : (n size : ℕ) (u : Unit {0}) → room_for n size ≡ Ok u → (1 ≤ n) × (n * line_bytes ≤ size)
room-told n size u e = room-bounds n size (ap is_refused e)

-- ---- the listing after the call
-- the first of two tests refuses: the listing is kept
pub kept-first : (j k : Judgement) (r : Refusal) (s₁ s₀ : List ℕ) → j ≡ Err r → s₀ ≡ listing_if (j and_then k) s₁ s₀
unfolding listing_if
kept-first j k r s₁ s₀ e = rw e

-- the second of them does
pub kept-second : (j k : Judgement) (u : Unit {0}) (r : Refusal) (s₁ s₀ : List ℕ) → j ≡ Ok u → k ≡ Err r → s₀ ≡ listing_if (j and_then k) s₁ s₀
unfolding listing_if
kept-second j k u r s₁ s₀ e q = rw (e, q)

-- none of them does: the listing is changed
pub set-both : (j k : Judgement) (u v : Unit {0}) (s₁ s₀ : List ℕ) → j ≡ Ok u → k ≡ Ok v → s₁ ≡ listing_if (j and_then k) s₁ s₀
unfolding listing_if
set-both j k u v s₁ s₀ e q = rw (e, q)

module _ (t : List ℕ) (fs : List Field) (n : ℕ) (s : List ℕ) where
  pub unknown : word_of t ≡ None → (Err (UnknownWord n) ≡ line_judged t fs n s) × (s ≡ listing_set t fs n s)
  unfolding line_judged listing_set listing_if judged
  unknown e = (rw e, rw e)

  pub known : (w : Word) → word_of t ≡ Some w → (j : Judgement) → j ≡ (judged today n (Some w) fs and_then room_for n (length s)) → (s₁ : List ℕ) → s₁ ≡ listing_if (judged today n (Some w) fs and_then room_for n (length s)) (with_line s (n - 1) (text_of w) fs) s
      → (j ≡ line_judged t fs n s) × (s₁ ≡ listing_set t fs n s)
  unfolding line_judged listing_set
  known w e j q s₁ r = (rw e q, rw (e, ← same_line s (n - 1) t (text_of w) fs (found t w e)) r)
