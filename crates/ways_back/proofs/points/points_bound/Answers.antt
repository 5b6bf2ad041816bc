use mathlib.Core.Path.{sym, ◌∙◌}
use Rattle.ways_back.proofs.CoveredPoints.{bound-straight}
use Rattle.ways_back.proofs.points.points_bound.Goals as goal

pub returns : goal.returns
returns c = bound-straight _ _ _ (sym c.any_goes_back.ensures ∙ c.if-any_goes_back.false)
