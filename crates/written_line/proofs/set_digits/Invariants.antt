-- The digits of a number, from the last column to the first: what is left to be set is the same after each. Assumes nothing.
use Rattle.std.proofs.Common.{◌≡◌, ◌+◌, Bool, length}
use Rattle.model.specs.Text.{columns_set}
use Rattle.written_line.specs.Cleared.{digit_shape, SameBefore}
use Rattle.written_line.proofs.set_digits.Given as goal

abbrev pub invariant-loop-i : goal.invariant-loop-i
invariant-loop-i l =
    (length l.s ≡ length l.initial.s) × ((negative : Bool) → columns_set l.s l.at l.i (digit_shape negative l.u) l.u ≡ columns_set l.initial.s l.at l.n (digit_shape negative l.v) l.v) × SameBefore (l.at + l.i) l.s l.initial.s
