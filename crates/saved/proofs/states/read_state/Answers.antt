-- By the length of the text, its first line and those of the registers. Assumes nothing.
use Rattle.std.proofs.Common.{sym, ◌∙◌}
use Rattle.saved.proofs.StateText.{saved-short, saved-whole}
use Rattle.saved.proofs.states.read_state.Goals as goal

pub returns-then-text-ne680 : goal.returns-then-text-ne680
returns-then-text-ne680 c = sym (saved-short _ c.if-text-ne680.true)

pub returns-in_err-point : goal.returns-in_err-point
returns-in_err-point c =
    let none = sym (rw c.line_at.ensures.value at c.target_on.ensures) ∙ c.in_err-point.was in
    c.from_residual.ensures ∙ sym (rw (saved-whole _ c.if-text-ne680.false, none))

pub returns-in_err-registers : goal.returns-in_err-registers
returns-in_err-registers c =
    let point = sym (rw c.line_at.ensures.value at c.target_on.ensures) ∙ c.in_ok-point.was in
    let none = sym c.read_registers.ensures ∙ c.in_err-registers.was in
    c.from_residual-in_err-registers.ensures ∙ sym (rw (saved-whole _ c.if-text-ne680.false, point, none))

pub returns : goal.returns
returns c =
    let point = sym (rw c.line_at.ensures.value at c.target_on.ensures) ∙ c.in_ok-point.was in
    let registers = sym c.read_registers.ensures ∙ c.in_ok-registers.was in
    sym (rw (saved-whole _ c.if-text-ne680.false, point, registers))
