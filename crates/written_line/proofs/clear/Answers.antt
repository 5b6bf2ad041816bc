-- Every byte is a space. Assumes nothing.
use Rattle.std.proofs.Common.{arith}
use Rattle.written_line.proofs.ClearedColumns.{cleared}
use Rattle.written_line.proofs.clear.Goals as goal

pub returns : goal.returns
returns c = rw (c.fill.ensures.after (λ y e. e)) (cleared _ (omega arith))
