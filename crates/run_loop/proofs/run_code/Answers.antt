-- So many steps are made and led to this point, these values and these bytes. Assumes nothing.
use mathlib.Core.Path.{◌≡◌, sym, ap, ◌∙◌}
use native.Mathlib.Omega.{arith}
use lib.ListN.{length}
use borrow.Author.Rules.{rules}
use Rattle.model.specs.Limits as Limits
use Rattle.model.specs.Listing.{listing_of, points_of}
use Rattle.model.specs.Machine.{lent, sizes_of, values_from}
use Rattle.state_tests.proofs.StateJudged.{met}
use Rattle.run_loop.proofs.RunLoop.{passes, steppable, stopped-here, spent-here, goes_on, start_is, at-start, lent-bytes, ran_to}
use Rattle.run_loop.proofs.run_code.Goals as goal

pub words-requires : goal.words-requires
words-requires c =
    (met (points_of (listing_of c.args.listing.now)) c.args.start (sizes_of (lent c.args.trays.now c.args.results.now)) c.requires.results_value).fit

pub loop-made-init : goal.loop-made-init
loop-made-init c =
    let h = met (points_of (listing_of c.args.listing.now)) c.args.start (sizes_of (lent c.args.trays.now c.args.results.now)) c.requires.results_value in
    let sixteen : length c.args.start.registers ≡ Limits.registers = search rules in
    let bytes = lent-bytes _ _ (λ i. (c.shared_slice_known-2-1.given i).fits) (λ i. (c.slice_known-1.given i).fits) in
    at-start _ _ (passes _ c.requires.listing_value) c.args.start _ (lent c.args.trays.now c.args.results.now) sixteen bytes h.claims (c.values_of-values.ensures ∙ ap (values_from c.args.start.registers) c.words.ensures)

pub returns-then-is_stop : goal.returns-then-is_stop
returns-then-is_stop c =
    let sixteen : length c.args.start.registers ≡ Limits.registers = search rules in
    let x = c.args.start in
    let t = lent c.args.trays.now c.args.results.now in
    let first = c.values_of-values.ensures ∙ ap (values_from c.args.start.registers) c.words.ensures in
    let e = stopped-here _ _ _ _ (passes _ c.requires.listing_value) c.loop-made.invariant _ (c.requires.coded.each _ c.loop-made.invariant.good.exists) (sym c.is_stop.ensures ∙ c.if-is_stop.true) in
    let r = ran_to c.args.listing.now x t c.args.budget c.requires.listing_value c.requires.results_value _ (start_is x _ t sixteen first) _ _ e in
    record { outcome = c.ended.ensures ∙ r.outcome; results = r.results }

pub step-point-requires : goal.step-point-requires
step-point-requires c =
    let coded = c.requires.coded in
    let most = coded.few in
    let i = c.loop-made.invariant.good.exists in
    steppable _ _ _ _ (passes _ c.requires.listing_value) c.loop-made.invariant _ (coded.each _ i) (omega arith)

pub loop-made-preserved : goal.loop-made-preserved
loop-made-preserved c =
    let same = c.requires.coded.each _ c.loop-made.invariant.good.exists in
    let going = sym c.is_stop.ensures ∙ c.if-is_stop.false in
    goes_on _ _ _ _ (passes _ c.requires.listing_value) c.loop-made.invariant _ same going (let w = c.loop-made-test.true in omega arith) _ _ _ c.step-point.ensures

pub returns : goal.returns
returns c =
    let sixteen : length c.args.start.registers ≡ Limits.registers = search rules in
    let x = c.args.start in
    let t = lent c.args.trays.now c.args.results.now in
    let first = c.values_of-values.ensures ∙ ap (values_from c.args.start.registers) c.words.ensures in
    let q : c.loop-made.made ≡ c.args.budget = (let w = c.loop-made.invariant.within in let e = c.loop-made-test.false in omega arith) in
    let e = spent-here _ _ _ _ (passes _ c.requires.listing_value) c.loop-made.invariant _ (c.requires.coded.each _ c.loop-made.invariant.good.exists) q in
    let r = ran_to c.args.listing.now x t c.args.budget c.requires.listing_value c.requires.results_value _ (start_is x _ t sixteen first) _ _ e in
    record { outcome = c.ended-2.ensures ∙ rw c.report_at_budget.ensures r.outcome; results = r.results }
