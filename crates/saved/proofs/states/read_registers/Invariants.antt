-- The loop's invariant: the registers passed are read. Assumes nothing.
use Rattle.std.proofs.Common.{◌≡◌}
use Rattle.std.specs.Prelude.{Some}
use Rattle.saved.specs.States.{registers_to}
use Rattle.saved.proofs.states.read_registers.Given as goal

abbrev pub invariant-loop-v : goal.invariant-loop-v
invariant-loop-v l = registers_to l.text l.v ≡ Some l.registers
