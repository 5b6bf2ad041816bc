-- After p points the code holds their instructions. Assumes nothing.
use mathlib.Core.Path.{ap, ◌∙◌}
use native.Mathlib.Omega.{arith}
use Rattle.decoded.specs.Decoded.{instruction_from}
use Rattle.runner.proofs.GatheredCode.{none-gathered, one-gathered}
use Rattle.runner.proofs.gather.Goals as goal

pub loop-p-init : goal.loop-p-init
loop-p-init c = none-gathered _ _ _

pub loop-p-preserved : goal.loop-p-preserved
loop-p-preserved c =
    let few = c.requires.all_placed.few in
    one-gathered _ _ _ _ _ (omega arith) (omega arith) (c.instruction_from.ensures ∙ ap instruction_from c.instruction_row.ensures) c.loop-p.invariant
