-- A minus before the digits, where there is a column for it. Assumes nothing.
use Rattle.written_line.proofs.ClearedColumns.{minus-none, minus-set}
use Rattle.written_line.proofs.set_minus.Goals as goal

pub returns-then-n-gt0 : goal.returns-then-n-gt0
returns-then-n-gt0 c = minus-set _ _ _ c.requires.1 c.if-n-gt0.true

pub returns-else-n-gt0 : goal.returns-else-n-gt0
returns-else-n-gt0 c = minus-none _ _ _ c.requires.1 c.if-n-gt0.false
