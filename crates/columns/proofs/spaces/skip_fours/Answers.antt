-- Four columns more that are all spaces. Assumes nothing.
use Rattle.std.proofs.Common.{◌≡◌, ◌+◌, ◌*◌, refl, sym, ◌∙◌, arith}
use Rattle.model.specs.Text.{shape_of, digits_of}
use Rattle.model.specs.Words.{begins}
use Rattle.columns.proofs.Shapes.{four-spaces}
use Rattle.columns.proofs.spaces.skip_fours.Goals as goal

pub loop-k-init : goal.loop-k-init
unfolding shape_of digits_of
loop-k-init c = (refl, refl)

pub loop-k-preserved : goal.loop-k-preserved
unfolding begins
loop-k-preserved c =
    let next : 4 * (c.loop-k.k + 1) ≡ 4 * c.loop-k.k + 4 = omega arith in
    rw next (four-spaces _ _ (4 * c.loop-k.k) c.loop-k.invariant.0 c.loop-k.invariant.1 (sym c.same.ensures ∙ c.if-not-same.false))
