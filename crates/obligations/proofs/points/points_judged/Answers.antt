-- Every point that is passed is accepted. Assumes nothing.
use Rattle.std.proofs.Common.{sym, ◌∙◌}
use Rattle.std.proofs.lemmas.Result.{err_from_is_err_and}
use Rattle.obligations.proofs.Owed.{points_none, accepted-next, refused_all}
use Rattle.obligations.proofs.points.points_judged.Goals as goal

pub loop-p-init : goal.loop-p-init
loop-p-init c = points_none _

pub returns-in_err-point_judged : goal.returns-in_err-point_judged
returns-in_err-point_judged c =
    let p = err_from_is_err_and c.from_residual.result c.from_residual.ensures.1 in
    rw (p.1, p.2) (refused_all _ _ _ _ c.loop-p-test.true c.loop-p.invariant _ (sym c.point_judged.ensures ∙ c.in_err-point_judged.was))

pub loop-p-preserved : goal.loop-p-preserved
loop-p-preserved c = accepted-next _ _ _ _ c.loop-p-test.true c.loop-p.invariant (sym c.point_judged.ensures ∙ c.in_ok-point_judged.was)
