-- The bytes after one that ends the number do not matter. Assumes nothing.
use Rattle.std.proofs.Common.{sym, ◌∙◌}
use Rattle.saved.proofs.BudgetDigits.{number-ended}
use Rattle.saved.proofs.numbers.parse.Goals as goal

pub returns-in_err-n : goal.returns-in_err-n
returns-in_err-n c = c.from_residual.ensures ∙ sym (number-ended _ _ _ c.loop-b-test.true c.loop-b.invariant (sym c.with_digit.ensures ∙ c.in_err-n.was))
