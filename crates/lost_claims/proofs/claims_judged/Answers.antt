-- The edge is impossible, or its first lost claim tells. Assumes nothing.
use Rattle.std.proofs.Common.{sym, ap, ◌∙◌}
use Rattle.model.specs.Facts.{Facts, non_empty}
use Rattle.lost_claims.proofs.LostClaims.{edge_none, edge-possible, edge-impossible}
use Rattle.lost_claims.proofs.claims_judged.Goals as goal

pub returns-then-n-eq0 : goal.returns-then-n-eq0
returns-then-n-eq0 c = edge_none c.args.line c.args.rows.now c.args.at.now c.args.t _ (sym c.claims_of-n.ensures ∙ c.if-n-eq0.true)

pub returns-then-not-is_possible : goal.returns-then-not-is_possible
returns-then-not-is_possible c =
    let a = c.args in
    rw (← c.along.ensures) (edge-impossible a.line a.rows.now a.at.now a.t c.along.new.edge (sym (ap (λ (f : Facts). non_empty f.ranges) c.edge.view_is) ∙ sym c.is_possible.ensures.0 ∙ c.if-not-is_possible.true))

pub returns : goal.returns
returns c =
    let a = c.args in
    let lost = rw (c.claims_of-n.ensures, c.first_of.ensures) at c.lost_judged.ensures in
    let possible = sym (ap (λ (f : Facts). non_empty f.ranges) c.edge.view_is) ∙ sym c.is_possible.ensures.0 ∙ c.if-not-is_possible.false in
    rw (← c.along.ensures) (lost ∙ edge-possible a.line a.rows.now a.at.now a.t c.along.new.edge c.requires.placed.point.before possible)
