use Rattle.std.proofs.Common.{◌-◌}
use Rattle.streams.proofs.read_full.Given as goal

abbrev pub decreases-loop-text : goal.decreases-loop-text
decreases-loop-text g l = g.row.N - l.text.length
