use mathlib.Core.Path.{◌∙◌}
use Rattle.std.proofs.lemmas.Result.{err_from_is_err_and}
use Rattle.step_bound.proofs.JudgedBound.{bound-refused, bound-accepted}
use Rattle.step_bound.proofs.bound_within.Goals as goal

pub returns-in_err-count : goal.returns-in_err-count
returns-in_err-count g c =
    let p = err_from_is_err_and c.from_residual.result c.from_residual.ensures.1 in
    rw (p.1, p.2) (bound-refused _ _ _ _ c.judged_listing.ensures _ c.in_err-count.was)

pub points_bound-requires : goal.points_bound-requires
points_bound-requires g c = (c.judged_listing.ensures.held _ c.in_ok-count.was).holds

pub returns : goal.returns
returns g c = c.points_bound.ensures ∙ bound-accepted _ _ _ _ c.judged_listing.ensures _ c.in_ok-count.was
