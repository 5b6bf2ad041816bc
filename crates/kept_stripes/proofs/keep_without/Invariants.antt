-- Of the stripes that are passed, those that do not name d are added. Assumes nothing.
use Rattle.std.proofs.Common.{◌≡◌, ◌+◌, ◌≤◌, ◌++◌, length, take}
use Rattle.model.specs.Transfer.{dropped}
use Rattle.kept_stripes.proofs.keep_without.Given as goal

abbrev pub invariant-loop-s : goal.invariant-loop-s
invariant-loop-s l = (length l.new ≤ length l.initial.new + l.s-index) × (l.new ≡ l.initial.new ++ dropped l.d (take l.s-index l.s-items))
