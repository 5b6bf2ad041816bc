-- What turns a run back is handed on; else the points that are held are the listing's. Assumes nothing.
use mathlib.Core.Path.{sym, ap, ◌∙◌}
use native.Mathlib.Omega.{arith}
use lib.ListN.{length-replicate}
use Rattle.std.proofs.lemmas.Result.{err_from_is_err_and}
use Rattle.model.specs.Machine.{lent}
use Rattle.model.specs.declared.machine.Instruction.{Instruction}
use Rattle.checker.specs.Judged.{judgement_of}
use Rattle.run_loop.proofs.RunLoop.{listing-refused, state-refused}
use Rattle.runner.proofs.PointCount.{code-room, state-judged-as}
use Rattle.runner.proofs.started.Goals as goal

pub returns-in_err-count : goal.returns-in_err-count
returns-in_err-count g c =
    let p = err_from_is_err_and c.from_residual.result c.from_residual.ensures.1 in
    rw (p.1, p.2) (listing-refused c.args.listing.now c.args.state (lent c.args.trays.now c.args.results.now) c.args.budget _
    (sym c.judged_listing.ensures.judgement ∙ ap judgement_of c.in_err-count.was))

pub state_judged-requires : goal.state_judged-requires
state_judged-requires g c = (c.judged_listing.ensures.held _ c.in_ok-count.was).holds

pub returns-in_err-state_judged : goal.returns-in_err-state_judged
returns-in_err-state_judged g c =
    let p = err_from_is_err_and c.from_residual-in_err-state_judged.result c.from_residual-in_err-state_judged.ensures.1 in
    rw (p.1, p.2) (state-refused c.args.listing.now c.args.state (lent c.args.trays.now c.args.results.now) c.args.budget
    (sym c.judged_listing.ensures.judgement ∙ ap judgement_of c.in_ok-count.was) _
    (state-judged-as _ _ _ _ _ _ (c.judged_listing.ensures.held _ c.in_ok-count.was) ∙ sym c.state_judged.ensures ∙ c.in_err-state_judged.was))

pub gather-requires-clause-n_in_bounds : goal.gather-requires-clause-n_in_bounds
gather-requires-clause-n_in_bounds g c =
    omega (arith, length-replicate {A = Instruction}, code-room _ _ _ _ _ c.requires.code_room (c.judged_listing.ensures.held _ c.in_ok-count.was))
