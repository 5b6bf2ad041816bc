-- The loop's invariant: the lines of the registers passed are set. Assumes nothing.
use Rattle.std.proofs.Common.{◌≡◌, length}
use Rattle.saved.specs.States.{registers_set}
use Rattle.saved.proofs.states.set_registers.Given as goal

abbrev pub invariant-loop-v : goal.invariant-loop-v
invariant-loop-v l = (length l.text ≡ length l.initial.text) × (l.text ≡ registers_set l.initial.text l.registers l.v)
