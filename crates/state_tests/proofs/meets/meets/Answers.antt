-- The stripes are asked where the ranges are met. Assumes nothing.
use Rattle.std.proofs.Common.{sym, ◌∙◌}
use Rattle.state_tests.proofs.ClaimsMet.{ranges-met, ranges-left}
use Rattle.state_tests.proofs.meets.meets.Goals as goal

pub returns-then-in_ranges : goal.returns-then-in_ranges
returns-then-in_ranges c = c.all_hold.ensures ∙ ranges-met c.args.values.now c.args.f.now (sym c.in_ranges.ensures ∙ c.if-in_ranges.true)

pub returns-else-in_ranges : goal.returns-else-in_ranges
returns-else-in_ranges c = c.if-in_ranges.false ∙ ranges-left c.args.values.now c.args.f.now (sym c.in_ranges.ensures ∙ c.if-in_ranges.false)
