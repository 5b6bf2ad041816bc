-- Document 02, T-01: one line of a lent listing, set from a word, six fields and the line's number counted from 1.
-- 3, 4, 5 and 19 are tested as for a line that is read, with the number as given for place, and 18 after them. A call that is turned back changes no byte.
-- The two laws at the end tie what the call writes to what the reader takes. Their proofs are those of the crate `writer`.
use Rattle.std.specs.Prelude.{ℕ, ◌*◌, ◌-◌, ◌<◌, ◌≤◌, ◌≡◌, Bool, true, false, ◌&&◌, cond, List, ◌++◌, ◌⊎◌, length, get_or, take, drop, leb, eqb}
use Rattle.model.specs.Types.{Field, Option, None, Line, refused_line, claim_line, instruction_line, NoRoom, Judgement, accepted, Err, Ok, Word}
use Rattle.model.specs.Limits.{line_bytes, greatest_lines, today}
use Rattle.model.specs.Answers.{◌and_then◌}
use Rattle.model.specs.Words.{words, word_among}
use Rattle.model.specs.Lines.{fields_in, judged, read_line, line_set}
use Rattle.model.specs.Listing.{line_at}

-- the word that some bytes are: none where they are not four
unfoldable pub word_of : List ℕ → Option Word
unfolding word_among
word_of t = cond (eqb (length t) 4) (word_among words t) None

-- 18: a listing can have a line n, and one of so many bytes does not end before it
unfoldable pub room_for : ℕ → ℕ → Judgement
room_for n size = cond (leb 1 n && leb n greatest_lines && leb (n * line_bytes) size) accepted (Err NoRoom)

-- what turns the call back: 3, 4, 5 and 19, then 18
unfoldable pub line_judged : List ℕ → List Field → ℕ → List ℕ → Judgement
unfolding word_of judged room_for
line_judged t fs n s = judged today n (word_of t) fs and_then room_for n (length s)

-- a listing with line k, counted from 0, set to the four bytes of a word and six fields
unfoldable pub with_line : List ℕ → ℕ → List ℕ → List Field → List ℕ
unfolding line_set
with_line s k t fs = take (k * line_bytes) s ++ (line_set (line_at s k) t fs ++ drop line_bytes (drop (k * line_bytes) s))

-- the first listing where nothing turns the call back, else the second
unfoldable pub listing_if : Judgement → List ℕ → List ℕ → List ℕ
listing_if (Ok u) s₁ s₀ = s₁
listing_if (Err r) s₁ s₀ = s₀

-- the listing after the call
unfoldable pub listing_set : List ℕ → List Field → ℕ → List ℕ → List ℕ
unfolding line_judged with_line listing_if
listing_set t fs n s = listing_if (line_judged t fs n s) (with_line s (n - 1) t fs) s

-- line n of the listing after the call
abbrev pub line_after : List ℕ → List Field → ℕ → List ℕ → List ℕ
line_after t fs n s = line_at (listing_set t fs n s) (n - 1)

-- the reader takes a line: as a claim or an instruction
abbrev pub is_taken : Line → Bool
is_taken (refused_line r) = false
is_taken (claim_line c) = true
is_taken (instruction_line i) = true

-- a place outside line n
abbrev pub OutsideLine : ℕ → ℕ → Type 0
OutsideLine n j = (j < (n - 1) * line_bytes) ⊎ (n * line_bytes ≤ j)

-- line n is read as the word and the fields that were given, and no byte outside it moved
pub record ReadBack (t : List ℕ) (fs : List Field) (n : ℕ) (s : List ℕ) : Type 0 where
  pub taken : (place : ℕ) → is_taken (read_line today place (line_after t fs n s)) ≡ true
  pub word : word_among words (line_after t fs n s) ≡ word_of t
  pub fields : fields_in (line_after t fs n s) ≡ fs
  pub size : length (listing_set t fs n s) ≡ length s
  pub others : (j : ℕ) → OutsideLine n j → get_or (listing_set t fs n s) j 0 ≡ get_or s j 0

-- the first law: what the call writes is read back
abbrev pub WrittenIsRead : Type 0
WrittenIsRead = (t : List ℕ) (fs : List Field) (n : ℕ) (s : List ℕ) → length fs ≡ 6 → line_judged t fs n s ≡ accepted → ReadBack t fs n s

-- the second law: a line that the reader takes is, whatever stood in its place, the line that the call writes for its word and fields
abbrev pub ReadIsWritten : Type 0
ReadIsWritten =
    (place : ℕ) (l : List ℕ) → length l ≡ line_bytes → is_taken (read_line today place l) ≡ true →
    (n : ℕ) (s : List ℕ) → room_for n (length s) ≡ accepted →
    (line_judged (take 4 l) (fields_in l) n s ≡ accepted) × (line_after (take 4 l) (fields_in l) n s ≡ l)
