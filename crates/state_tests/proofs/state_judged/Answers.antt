-- Each test in the model's order. Assumes nothing.
use Rattle.std.proofs.Common.{true, false, sym, ap, ◌∙◌}
use Rattle.model.specs.Machine.{values_from}
use Rattle.model.specs.Run.{size_fits}
use Rattle.state_tests.specs.States.{state}
use Rattle.state_tests.proofs.ClaimsMet.{all-every}
use Rattle.state_tests.proofs.StateJudged.{tables-long, point-past, claims-tested}
use Rattle.state_tests.proofs.state_judged.Goals as goal

pub returns-then-not-all_fit : goal.returns-then-not-all_fit
returns-then-not-all_fit c =
    let a = c.args in
    tables-long a.rows.now a.at.now a.count (state a.point a.registers) a.sizes (sym (all-every size_fits a.sizes) ∙ sym c.all_fit.ensures ∙ c.if-not-all_fit.true)

pub words-requires : goal.words-requires
words-requires c = sym (all-every size_fits c.args.sizes) ∙ sym c.all_fit.ensures ∙ c.if-not-all_fit.false

pub returns-then-count-point : goal.returns-then-count-point
returns-then-count-point c =
    let a = c.args in
    point-past a.rows.now a.at.now a.count (state a.point a.registers) a.sizes (sym (all-every size_fits a.sizes) ∙ sym c.all_fit.ensures ∙ c.if-not-all_fit.false) c.if-count-point.true

pub returns-then-claims_met : goal.returns-then-claims_met
returns-then-claims_met c =
    let a = c.args in
    let short = sym (all-every size_fits a.sizes) ∙ sym c.all_fit.ensures ∙ c.if-not-all_fit.false in
    let values = c.values_of-values.ensures ∙ ap (values_from a.registers) c.words.ensures in
    claims-tested a.rows.now a.at.now a.count (state a.point a.registers) a.sizes short c.if-count-point.false _ values true (sym c.if-claims_met.true ∙ c.claims_met.ensures)

pub returns : goal.returns
returns c =
    let a = c.args in
    let short = sym (all-every size_fits a.sizes) ∙ sym c.all_fit.ensures ∙ c.if-not-all_fit.false in
    let values = c.values_of-values.ensures ∙ ap (values_from a.registers) c.words.ensures in
    claims-tested a.rows.now a.at.now a.count (state a.point a.registers) a.sizes short c.if-count-point.false _ values false (sym c.if-claims_met.false ∙ c.claims_met.ensures)
