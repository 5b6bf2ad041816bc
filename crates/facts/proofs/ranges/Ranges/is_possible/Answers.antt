-- After as many turns it is the test of the first variables. Assumes nothing.
use Rattle.std.proofs.Common.{◌≡◌, refl, sym, ap, subst, ◌∙◌, add-one, arith}
use Rattle.model.specs.Limits.{variables}
use Rattle.model.specs.Lists.{every_below}
use Rattle.model.specs.Facts.{non_empty}
use Rattle.facts.specs.Bounds.{HighWords}
use Rattle.facts.proofs.PossibleRanges.{possible-lows}
use Rattle.facts.proofs.ranges.Ranges.is_possible.Invariants.{has_value}
use Rattle.facts.proofs.ranges.Ranges.is_possible.Goals as goal

pub loop-r-init : goal.loop-r-init
unfolding every_below
loop-r-init c = refl

pub loop-r-preserved : goal.loop-r-preserved
unfolding every_below
loop-r-preserved c = rw (c.loop-r.invariant, add-one)

pub returns : goal.returns
unfolding non_empty
returns c =
    let n : c.loop-r.r-index ≡ variables = omega arith in
    let whole : c.loop-r.every ≡ non_empty c.args.self.now = c.loop-r.invariant ∙ ap (every_below (has_value c.self.inside.ranges)) n ∙ ap non_empty c.self.view_is in
    (whole, λ e. possible-lows c.args.self.now (subst HighWords c.self.view_is c.self.invariant) (sym whole ∙ e))
