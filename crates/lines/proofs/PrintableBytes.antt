-- Counted from the space on, modulo 256, one limit tells whether a byte is printable. Assumes nothing.
use Rattle.std.proofs.Common.{◌≡◌, ℕ, ◌+◌, ◌%◌, ◌^◌, ◌<◌, ◌≤◌, false, ◌&&◌, leb, sym, ◌∙◌, arith, le-leb}
use mathlib.Core.Bool.{and-false}
use native.Mathlib.Decide.{dec_le}
use borrow.Author.Tests.{lt-leb}
use Rattle.model.specs.Lines.{printable}

pub printable-from-space : (r b : ℕ) → r < 256 → (r + 32) % 2 ^ 8 ≡ b → leb r 94 ≡ printable b
unfolding printable
printable-from-space r b small e = go (dec_le r 94)
  where
    low : r + 32 < 256 → b ≡ r + 32
    low h = omega arith

    go : Dec (r ≤ 94) → leb r 94 ≡ (leb 32 b && leb b 126)
    go (yes h) =
        let s = low (omega arith) in
        rw (le-leb r 94 h, le-leb 32 b (omega arith), le-leb b 126 (omega arith))
    go (no h) = lt-leb r 94 (omega arith) ∙ sym (out (dec_le b 126))
      where
        out : Dec (b ≤ 126) → (leb 32 b && leb b 126) ≡ false
        out (yes k) = let below : b < 32 = omega arith in rw (lt-leb 32 b below)
        out (no k) = let above : 126 < b = omega arith in rw (lt-leb b 126 above) (and-false (leb 32 b))
