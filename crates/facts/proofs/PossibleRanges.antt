-- Where no range is empty, the low ends are values of a register, as the high ends are. Assumes nothing.
use Prim.Native.Nat.{ℕ, ◌≤◌, ◌<◌}
use mathlib.Core.Path.{◌≡◌, ap}
use mathlib.Core.Bool.{Bool, true}
use mathlib.Core.List.{List}
use native.Mathlib.Decide.{dec_lt}
use native.Mathlib.Omega.{arith}
use lib.Dec.{leb}
use lib.ListN.{get_or-eq_default}
use borrow.Author.Tests.{leb-true}
use Rattle.model.specs.declared.claims.Range.{Range}
use Rattle.model.specs.Limits.{variables, MAX}
use Rattle.model.specs.Facts.{exactly, lo, hi, non_empty}
use Rattle.model.proofs.Tests.{every-below}
use Rattle.facts.specs.Bounds.{HighWords, LowWords}

pub possible-lows : (rs : List Range) → HighWords rs → non_empty rs ≡ true → LowWords rs
unfolding non_empty
possible-lows rs bounds e v = go (dec_lt v variables)
  where
    has_value : ℕ → Bool
    has_value u = leb (lo rs u) (hi rs u)

    go : Dec (v < variables) → lo rs v ≤ MAX
    go (yes inside) = omega (arith, bounds.highs v, leb-true (lo rs v) (hi rs v) (every-below has_value variables e v inside))
    go (no past) = omega (arith, ap (λ (r : Range). r.lo) (get_or-eq_default rs (exactly 0) {n = v} (omega (arith, bounds.long, past))))
