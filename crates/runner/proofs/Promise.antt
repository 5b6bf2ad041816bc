-- The promise, from the model's: the code hands back what the model's run does. Assumes nothing.
use Prim.Native.Nat.{ℕ}
use mathlib.Core.Path.{◌≡◌, sym, ap, subst, ◌∙◌}
use mathlib.Core.List.{List, [], ◌∷◌}
use native.Mathlib.Omega.{arith}
use Rattle.model.specs.declared.machine.State.{State}
use Rattle.model.specs.declared.answers.Outcome.{Outcome}
use Rattle.model.specs.Listing.{Point, listing_of, points_of}
use Rattle.model.specs.Machine.{lent, Config}
use Rattle.model.specs.Run.{Ran}
use Rattle.model.specs.Safety.{Call, AllLend, RunsWell, ran_on, Kept}
use Rattle.model.proofs.Runs.{at_same}
use Rattle.model.proofs.Safety.{safety}
use Rattle.runner.specs.Promise.{Answer, by_value, in_place, outcome_in, RunMade, handed_back, state_after, Contract, MadeInOrder, AllRunWell, Promise}

-- a run that runs well leaves the trays as they were lent
trays-kept : (ps : List Point) (sizes : List ℕ) (s : State) (k : Call) (r : Ran) → RunsWell ps sizes s k r → r.tables.trays ≡ k.tables.trays
trays-kept ps sizes s k r w =
    let h = w.halted r.outcome.steps (omega arith) in
    ap (λ (c : Config). c.tables.trays) (at_same (sym w.handed_back ∙ h.reached)) ∙ h.trays

-- by either contract the outcome is the model's, and so are the results
same_outcome : (r : Ran) (a : Answer) (rs : List ℕ) → Contract r a rs → (r.outcome ≡ outcome_in a) × (r.tables.results ≡ rs)
same_outcome r (by_value o) rs h = (sym h.outcome, sym h.results)
same_outcome r (in_place e s) rs h = ((λ i. record { report = sym h.report i; state = sym h.state i; steps = sym h.steps i }), sym h.results)

abbrev calls : List RunMade → List Call
calls [] = []
calls (r ∷ rs) = r.call ∷ calls rs

module _ (l : List ℕ) (sizes : List ℕ) where
  all-lend : (s : State) (rs : List RunMade) → MadeInOrder l sizes s rs → AllLend sizes (calls rs)
  all-lend s [] h = tt
  all-lend s (r ∷ rs) h = (h.0.lends, all-lend (state_after r) rs h.1)

  all-well : (s : State) (rs : List RunMade) → Kept l sizes s (calls rs) → MadeInOrder l sizes s rs → AllRunWell l sizes s rs
  all-well s [] k h = tt
  all-well s (r ∷ rs) k h =
      let e = same_outcome (ran_on l s r.call) r.answer r.results h.0.contract in
      let t = trays-kept (points_of (listing_of l)) sizes s r.call (ran_on l s r.call) k.0 in
      let same : ran_on l s r.call ≡ handed_back r = λ i. record { outcome = e.0 i; tables = lent (t i) (e.1 i) } in (
        subst (RunsWell (points_of (listing_of l)) sizes s r.call) same k.0,
        all-well (state_after r) rs (subst (λ (o : Outcome). Kept l sizes o.state (calls rs)) e.0 k.1) h.1,
      )

pub promise : Promise
promise l points pass sizes s sixteen e runs h = all-well l sizes s runs (safety l points pass sizes s sixteen e (calls runs) (all-lend l sizes s runs h)) h
