-- All claims are stripes, or the ranges tell. Assumes nothing.
use Rattle.std.proofs.Common.{sym, ap, ◌∙◌, length}
use Rattle.model.specs.Facts.{Facts}
use Rattle.model.proofs.OwedPoints.{stripes-alone}
use Rattle.obligations.proofs.points.is_empty.Goals as goal

pub returns-then-stripes-n : goal.returns-then-stripes-n
returns-then-stripes-n c q claims facts =
    sym (stripes-alone q (ap (λ (f : Facts). length f.stripes) (sym facts) ∙ ap length (sym c.stripes.ensures.same) ∙ c.if-stripes-n.true ∙ claims))
