-- The columns of a field inside its line. Assumes nothing.
use Prim.Native.Nat.{ℕ, ◌+◌, ◌≤◌, ◌<◌}
use native.Mathlib.Omega.{arith}
use mathlib.Core.Path.{◌≡◌, refl}
use mathlib.Core.Bool.{Bool, true, false, cond}
use lib.Dec.{eqb}
use borrow.Author.Tests.{eqb-true, eqb-false}
use Rattle.model.specs.Lines.{column_of, width_of}

-- the columns of a field end before column 40
pub columns-fit : (j : ℕ) → j < 6 → (column_of j + width_of j ≤ 39) × (width_of j ≤ 15)
unfolding width_of
columns-fit j h = go (eqb j 5) refl
  where
    go : (b : Bool) → eqb j 5 ≡ b → (column_of j + cond b 15 4 ≤ 39) × (cond b 15 4 ≤ 15)
    go true e = let q = eqb-true j 5 e in omega arith
    go false e = let q = eqb-false j 5 e in omega arith
