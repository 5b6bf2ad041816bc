-- The length of a text without the spaces at its right, where its last byte is a space and where it is not. Assumes nothing.
use mathlib.Core.Path.{◌≡◌}
use mathlib.Core.List.{List}
use Prim.Native.Nat.{ℕ, zero, suc, ◌-◌, ◌<◌}
use native.Mathlib.Omega.{arith}
use native.Mathlib.Numerals.{unary_clauses}
use lib.ListN.{get_or}
use borrow.Author.Tests.{eq-eqb, ne_eqb}
use Rattle.model.specs.Text.{space}
use Rattle.explained.specs.Explanation.{trimmed_to}

pub space-cut : (s : List ℕ) (n : ℕ) → 0 < n → get_or s (n - 1) 0 ≡ space → trimmed_to s n ≡ trimmed_to s (n - 1)
unfolding trimmed_to
space-cut s zero h e = absurd (omega arith)
space-cut s (suc n) h e = let g : get_or s n 0 ≡ space = simp unary_clauses at e in simp (unary_clauses, eq-eqb _ _ g)

pub byte-kept : (s : List ℕ) (n : ℕ) → 0 < n → (get_or s (n - 1) 0 ≡ space → ⊥) → trimmed_to s n ≡ n
unfolding trimmed_to
byte-kept s zero h e = absurd (omega arith)
byte-kept s (suc n) h e = let g : (get_or s n 0 ≡ space → ⊥) = simp unary_clauses at e in simp (ne_eqb _ _ g)
