-- The listing is read, and then judged by its points. Assumes nothing.
use mathlib.Core.Path.{sym, ◌∙◌}
use Rattle.std.proofs.lemmas.Result.{err_from_is_err_and}
use Rattle.checker.proofs.Verdicts.{judged-refused_listing, judged-refused_points, judged-passed}
use Rattle.checker.proofs.judged_listing.Goals as goal

pub returns-in_err-count : goal.returns-in_err-count
returns-in_err-count c =
    let p = err_from_is_err_and c.from_residual.result c.from_residual.ensures.1 in
    rw (p.1, p.2) (judged-refused_listing _ _ _ _ (rw c.in_err-count.was at c.read_listing.ensures))

pub returns-in_err-points_judged : goal.returns-in_err-points_judged
returns-in_err-points_judged c =
    let p = err_from_is_err_and c.from_residual-in_err-points_judged.result c.from_residual-in_err-points_judged.ensures.1 in
    rw (p.1, p.2) (judged-refused_points _ _ _ _ (rw c.in_ok-count.was at c.read_listing.ensures) _ (sym c.points_judged.ensures ∙ c.in_err-points_judged.was))

pub returns : goal.returns
returns c =
    judged-passed _ _ _ _ (rw c.in_ok-count.was at c.read_listing.ensures) _ (sym c.points_judged.ensures ∙ c.in_ok-points_judged.was)
