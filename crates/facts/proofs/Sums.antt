-- The sums of a test stay far below what 64 bits hold. Assumes nothing.
use native.Mathlib.Omega.{arith}
use Rattle.facts.specs.Sizes.{SumsBelow}

pub sums-below : SumsBelow
sums-below p q h k = omega arith
