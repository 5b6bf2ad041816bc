-- The ranges of the variables that are passed are copied. Assumes nothing.
use Rattle.std.proofs.Common.{◌≡◌, ◌<◌, length, length-set, sym, ◌∙◌, rules, arith}
use Rattle.std.proofs.lemmas.List.{take_more, take_more_set, take_all}
use Rattle.model.specs.Limits.{variables}
use Rattle.model.specs.Facts.{between}
use Rattle.facts.proofs.ranges.copy.Goals as goal

pub loop-v-preserved : goal.loop-v-preserved
loop-v-preserved c =
    let a = c.args in
    let at = c.loop-v in
    let long : length a.from.now ≡ variables = search rules in
    let here : at.v < length at.to = omega arith in
    (length-set at.to at.v _ ∙ at.invariant.0, rw (take_more_set at.to at.v _ here, at.invariant.1) (sym (take_more a.from.now at.v (between 0 0) (omega arith))))

pub returns : goal.returns
returns c =
    let a = c.args in
    let at = c.loop-v in
    let long : length a.from.now ≡ variables = search rules in
    sym (take_all at.v at.to (omega arith)) ∙ at.invariant.1 ∙ take_all at.v a.from.now (omega arith)
