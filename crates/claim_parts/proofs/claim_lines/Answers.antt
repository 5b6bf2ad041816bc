-- The part of the listing, or an empty one. Assumes nothing.
use Prim.Native.Nat.{ℕ, ◌+◌, ◌-◌}
use mathlib.Core.Path.{◌≡◌}
use native.Mathlib.Omega.{arith}
use Rattle.claim_parts.proofs.Parts.{lies-inside, holds-lines, holds-none}
use Rattle.claim_parts.proofs.claim_lines.Goals as goal

span : (a n : ℕ) → a + n - a ≡ n
span a n = omega arith

pub returns-in-Ok : goal.returns-in-Ok
returns-in-Ok c = rw span (holds-lines _ _ _ c.claim_part.ensures _ c.in-Ok.is)

pub returns-in-Err : goal.returns-in-Err
returns-in-Err c = holds-none _ _ _ c.claim_part.ensures _ c.in-Err.is

pub overflow_add-result : goal.overflow_add-result
overflow_add-result c = omega (arith, lies-inside _ _ _ c.claim_part.ensures _ c.in-Ok.is)

pub slice_bounds-result-end : goal.slice_bounds-result-end
slice_bounds-result-end c = omega (arith, lies-inside _ _ _ c.claim_part.ensures _ c.in-Ok.is)
