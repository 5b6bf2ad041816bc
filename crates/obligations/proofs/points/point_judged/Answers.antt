-- Empty, or what it owes. Assumes nothing.
use Rattle.std.proofs.Common.{sym, ◌∙◌}
use Rattle.model.proofs.OwedPoints.{owes_nothing, owes}
use Rattle.obligations.proofs.Owed.{tells-empty}
use Rattle.obligations.proofs.points.point_judged.Goals as goal

pub returns-then-is_empty : goal.returns-then-is_empty
returns-then-is_empty c =
    let a = c.args in
    let e = tells-empty a.rows.now a.at.now a.p _ _ _ c.is_empty.ensures c.claims_of.ensures c.facts_at.ensures in
    sym (owes_nothing _ _ _ (sym e ∙ c.if-is_empty.true))

pub returns : goal.returns
returns c =
    let a = c.args in
    let e = tells-empty a.rows.now a.at.now a.p _ _ _ c.is_empty.ensures c.claims_of.ensures c.facts_at.ensures in
    c.owed_judged.ensures ∙ sym (owes _ _ _ (sym e ∙ c.if-is_empty.false))
