-- A line is shown byte by byte: the laws of the loop that shows it, and of the line in the listing. Assumes nothing.
use mathlib.Core.Path.{◌≡◌, refl, sym, ap, ◌∙◌}
use mathlib.Core.List.{List, [], ◌∷◌, map, ◌++◌, append-nil}
use Prim.Native.Nat.{ℕ, zero, suc, ◌+◌, ◌*◌, ◌-◌, ◌/◌, ◌≤◌, ◌<◌}
use native.Mathlib.Omega.{arith}
use native.Mathlib.Nat.{zero-add}
use lib.ListN.{length, take, drop, get_or, set, replicate, get_or-map, length-drop, length-map}
use lib.Seq.{paste, paste-suc, get_or-drop, length-take-le}
use borrow.Author.Tests.{le-leb, lt-leb}
use Rattle.model.specs.Text.{space}
use Rattle.explained.specs.Explanation.{padded, shown_byte, shown_line}

-- 39 spaces with the first n bytes of a text, shown, in their place
abbrev pub shown_to : List ℕ → ℕ → List ℕ
shown_to s n = paste (replicate 39 space) 0 (map shown_byte s) n

-- one byte more
pub shown-more : (s : List ℕ) (at j : ℕ) → j < 39 → at + j < length s → set (shown_to (drop at s) j) j (shown_byte (get_or s (at + j) 0)) ≡ shown_to (drop at s) (suc j)
shown-more s at j small inside =
    ap (λ (k : ℕ). set (shown_to (drop at s) j) k (shown_byte (get_or s (at + j) 0))) (sym (zero-add j))
    ∙ ap (λ (v : ℕ). set (shown_to (drop at s) j) (0 + j) v) (sym byte)
    ∙ paste-suc (replicate 39 space) 0 (map shown_byte (drop at s)) j (shown_byte 0) (omega arith) long
  where
    byte : get_or (map shown_byte (drop at s)) j (shown_byte 0) ≡ shown_byte (get_or s (at + j) 0)
    byte = get_or-map shown_byte (drop at s) j 0 ∙ ap shown_byte (get_or-drop at s j 0)

    long : j < length (map shown_byte (drop at s))
    long = rw (length-map (drop at s) shown_byte, length-drop at s) (omega arith)

-- the first bytes of a text shown are those of the text that is shown
map-take : (f : ℕ → ℕ) (n : ℕ) (s : List ℕ) → map f (take n s) ≡ take n (map f s)
map-take f zero s = refl
map-take f (suc n) [] = refl
map-take f (suc n) (x ∷ s) = ap (λ (r : List ℕ). f x ∷ r) (map-take f n s)

-- all 39
pub shown-whole : (s : List ℕ) → shown_to s 39 ≡ map shown_byte (take 39 s)
shown-whole s = append-nil (take 39 (map shown_byte s)) ∙ sym (map-take shown_byte 39 s)

-- a line that the listing does not have
pub no_line : (s : List ℕ) (k : ℕ) → length s / 40 < k → shown_line s k ≡ []
unfolding shown_line
no_line s zero h = refl
no_line s (suc k) h = simp (lt-leb (suc k * 40) (length s) (omega arith))

-- a text that fills its place
padded-full : (n : ℕ) (s : List ℕ) → length s ≡ n → padded n s ≡ s
padded-full n s e =
    let none : n - length s ≡ 0 = omega arith in
    ap (λ (k : ℕ). s ++ replicate k space) none ∙ append-nil s

-- a line that it has
pub whole-line : (s : List ℕ) (k : ℕ) → 0 < k → k * 40 ≤ length s → padded 39 (shown_line s k) ≡ map shown_byte (take 39 (drop ((k - 1) * 40) s))
unfolding shown_line
whole-line s zero h inside = absurd (omega arith)
whole-line s (suc k) h inside =
    rw (le-leb (suc k * 40) (length s) inside, before) (padded-full 39 _ (length-map (take 39 (drop (k * 40) s)) shown_byte ∙ length-take-le 39 (drop (k * 40) s) long))
  where
    before : suc k - 1 ≡ k
    before = omega arith

    long : 39 ≤ length (drop (k * 40) s)
    long = rw (length-drop (k * 40) s) (omega arith)
