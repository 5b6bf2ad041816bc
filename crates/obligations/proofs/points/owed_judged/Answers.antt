-- Each test in the model's order. Assumes nothing.
use Rattle.std.proofs.Common.{sym, ap, ◌∙◌}
use Rattle.std.proofs.lemmas.Result.{err_from_is_err_and}
use Rattle.decoded.specs.Decoded.{instruction_from}
use Rattle.obligations.proofs.Owed.{next-is, by-safety, by_next_edge, by-none, by-target}
use Rattle.obligations.proofs.points.owed_judged.Goals as goal

pub returns-in_err-safety_judged : goal.returns-in_err-safety_judged
returns-in_err-safety_judged c =
    let h = c.requires.holds in
    let i = c.instruction_from-i.ensures ∙ ap instruction_from c.instruction_row-r.ensures in
    let p = err_from_is_err_and c.from_residual.result c.from_residual.ensures.1 in
    rw (p.1, p.2) (by-safety _ _ _ _ h.0 h.1 _ _ _ c.line_of-line.ensures c.requires.facts i _ (sym c.safety_judged.ensures ∙ c.in_err-safety_judged.was))

pub returns-in_err-edge_judged : goal.returns-in_err-edge_judged
returns-in_err-edge_judged c =
    let h = c.requires.holds in
    let i = c.instruction_from-i.ensures ∙ ap instruction_from c.instruction_row-r.ensures in
    let p = err_from_is_err_and c.from_residual-in_err-edge_judged.result c.from_residual-in_err-edge_judged.ensures.1 in
    rw (p.1, p.2) (by_next_edge _ _ _ _ h.0 h.1 _ _ _ c.line_of-line.ensures c.requires.facts i (sym c.safety_judged.ensures ∙ c.in_ok-safety_judged.was) _ (sym (next-is _ _ _ _ h.0 h.1 _ _ _ c.line_of-line.ensures c.requires.facts i _ c.goes_on.ensures) ∙ sym c.edge_judged.ensures ∙ c.in_err-edge_judged.was))

pub returns-in-None : goal.returns-in-None
returns-in-None c =
    let a = c.args in
    let h = c.requires.holds in
    let i = c.instruction_from-i.ensures ∙ ap instruction_from c.instruction_row-r.ensures in
    by-none a.rows.now a.at.now a.n a.p h.0 h.1 _ _ _ c.line_of-line.ensures c.requires.facts i (sym c.safety_judged.ensures ∙ c.in_ok-safety_judged.was)
    (sym (next-is _ _ _ _ h.0 h.1 _ _ _ c.line_of-line.ensures c.requires.facts i _ c.goes_on.ensures) ∙ sym c.edge_judged.ensures ∙ c.in_ok-edge_judged.was)
    (rw c.instruction_row-r.ensures at c.in-None.ensures)

pub returns-in-Some : goal.returns-in-Some
returns-in-Some c =
    let a = c.args in
    let h = c.requires.holds in
    let i = c.instruction_from-i.ensures ∙ ap instruction_from c.instruction_row-r.ensures in
    c.claims_judged.ensures
    ∙ by-target a.rows.now a.at.now a.n a.p h.0 h.1 _ _ _ c.line_of-line.ensures c.requires.facts i (sym c.safety_judged.ensures ∙ c.in_ok-safety_judged.was)
    (sym (next-is _ _ _ _ h.0 h.1 _ _ _ c.line_of-line.ensures c.requires.facts i _ c.goes_on.ensures) ∙ sym c.edge_judged.ensures ∙ c.in_ok-edge_judged.was)
    _ (rw c.instruction_row-r.ensures at c.in-Some.ensures)
