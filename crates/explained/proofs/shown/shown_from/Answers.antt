-- The loop's invariant: the bytes passed stand shown at the left of the spaces. Assumes nothing.
use mathlib.Core.Path.{◌≡◌, ◌∙◌}
use mathlib.Core.List.{map}
use native.Mathlib.Omega.{arith}
use native.Mathlib.Numerals.{add-one}
use lib.ListN.{drop, replicate}
use lib.Seq.{paste-zero}
use Rattle.model.specs.Text.{space}
use Rattle.explained.specs.Explanation.{shown_byte}
use Rattle.explained.proofs.ShownLine.{shown-more, shown-whole}
use Rattle.explained.proofs.shown.shown_from.Goals as goal

pub loop-j-init : goal.loop-j-init
loop-j-init c = paste-zero (replicate 39 space) 0 (map shown_byte (drop c.args.at c.args.listing.now))

pub loop-j-preserved : goal.loop-j-preserved
loop-j-preserved c =
    let a = c.args in
    let l = c.loop-j in
    rw (l.invariant, c.shown.ensures, add-one) (shown-more a.listing.now a.at l.j (omega arith) (omega arith))

pub returns : goal.returns
returns c = let e : c.loop-j.j ≡ 39 = omega arith in c.loop-j.invariant ∙ rw (e) (shown-whole (drop c.args.at c.args.listing.now))
