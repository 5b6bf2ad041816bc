-- The stripes that are passed are added. Assumes nothing.
use Rattle.std.proofs.Common.{◌≡◌, ◌++◌, take}
use Rattle.kept_stripes.proofs.keep_all.Given as goal

abbrev pub invariant-loop-s : goal.invariant-loop-s
invariant-loop-s l = l.new ≡ l.initial.new ++ take l.s-index l.s-items
