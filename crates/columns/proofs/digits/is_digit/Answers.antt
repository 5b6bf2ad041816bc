-- The test is the definition. Assumes nothing.
use mathlib.Core.Path.{refl}
use Rattle.model.specs.Text.{is_digit}
use Rattle.columns.proofs.digits.is_digit.Goals as goal

pub returns : goal.returns
unfolding is_digit
returns c = refl
