-- A register more, or none. Assumes nothing.
use Rattle.std.proofs.Common.{◌+◌, refl, sym, ◌∙◌, arith}
use Rattle.saved.specs.States.{registers_to}
use Rattle.saved.proofs.StateText.{registers-next, none-stays}
use Rattle.saved.proofs.states.read_registers.Goals as goal

pub loop-v-init : goal.loop-v-init
unfolding registers_to
loop-v-init c = refl

pub returns-in_err-registers : goal.returns-in_err-registers
returns-in_err-registers c =
    let none = sym (rw c.line_at.ensures.value at c.setting_on.ensures) ∙ c.in_err-registers.was in
    c.from_residual.ensures ∙ sym (none-stays _ (c.loop-v.v + 1) _ (omega arith) (rw (registers-next, c.loop-v.invariant, none)))

pub loop-v-preserved : goal.loop-v-preserved
loop-v-preserved c =
    let some = sym (rw c.line_at.ensures.value at c.setting_on.ensures) ∙ c.in_ok-registers.was in
    rw (registers-next, c.loop-v.invariant, some)
