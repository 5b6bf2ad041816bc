-- A register more. Assumes nothing.
use Rattle.std.proofs.Common.{refl, ◌∙◌}
use Rattle.saved.specs.States.{registers_set}
use Rattle.saved.proofs.StateText.{registers-set-next}
use Rattle.saved.proofs.states.set_registers.Goals as goal

pub loop-v-init : goal.loop-v-init
unfolding registers_set
loop-v-init c = (refl, refl)

pub loop-v-preserved : goal.loop-v-preserved
loop-v-preserved c = (c.set_register.auto.text ∙ c.loop-v.invariant.0, rw (c.set_register.ensures, c.loop-v.invariant.1, registers-set-next))
