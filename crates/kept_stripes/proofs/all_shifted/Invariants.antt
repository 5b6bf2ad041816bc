-- Of the stripes that are passed, those whose bound stays within its limits are kept, shifted. Assumes nothing.
use Rattle.std.proofs.Common.{◌≡◌, ◌≤◌, length, take}
use Rattle.model.specs.Limits.{today}
use Rattle.model.specs.Transfer.{all_shifted}
use Rattle.kept_stripes.proofs.all_shifted.Given as goal

abbrev pub invariant-loop-s : goal.invariant-loop-s
invariant-loop-s l = (length l.new ≤ l.s-index) × (l.new ≡ all_shifted today l.d l.up l.down (take l.s-index l.s-items))
