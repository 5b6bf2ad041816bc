-- The loop's invariant: the number so far is that of the bytes passed. Assumes nothing.
use Rattle.std.proofs.Common.{◌≡◌}
use Rattle.std.specs.Prelude.{Some}
use Rattle.saved.specs.Numbers.{digits_to}
use Rattle.saved.proofs.numbers.parse.Given as goal

abbrev pub invariant-loop-b : goal.invariant-loop-b
invariant-loop-b l = digits_to l.text l.b-index ≡ Some l.n
