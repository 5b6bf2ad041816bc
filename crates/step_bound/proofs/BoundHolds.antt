-- The promise of T-05, proved: the runs of a listing make at most as many steps as the rank at point 0, which is below the bound. Assumes nothing.
use Prim.Native.Nat.{ℕ, zero, suc, ◌+◌, ◌-◌, ◌≤◌, ◌<◌}
use mathlib.Core.Path.{◌≡◌, refl, sym, ap, subst, ◌∙◌}
use mathlib.Core.Bool.{true, false, false≢true}
use mathlib.Core.List.{List, [], ◌∷◌}
use native.Mathlib.Omega.{arith}
use lib.ListN.{length}
use Rattle.model.specs.declared.machine.State.{State}
use Rattle.model.specs.Types.{Judgement, accepted}
use Rattle.std.specs.Prelude.{Ok, Err, Option}
use Rattle.model.specs.declared.answers.Report.{Report}
use Rattle.model.specs.declared.answers.Report.TheVariants.{Stopped, Paused, Refused as refused_run}
use Rattle.model.specs.Limits.{registers}
use Rattle.model.specs.Answers.{◌and_then◌}
use Rattle.model.specs.Listing.{Point, point_at, listing_of, points_of}
use Rattle.model.specs.Machine.{Config, config_of, state_of, Step, next, stopped, error_state, instruction_at, step_at, at, settled, onward, steps}
use Rattle.model.specs.Check.{listing_judged, check}
use Rattle.model.specs.Run.{meets_claims, at_stop, Ran}
use Rattle.model.specs.Safety.{Call, AllLend, EndedWell, RunsWell, ran_on, Kept}
use Rattle.model.specs.Bound.{edges_covered, bound_of, bound_from, step_bound, budgets_of, LastStops, StopsWithin, BoundHolds}
use Rattle.model.proofs.Lists.{all-at}
use Rattle.model.proofs.Reading.{both-accepted, PointLimited}
use Rattle.model.proofs.OneStep.{Good, StepGood}
use Rattle.model.proofs.Steps.{Passes, step_kept, reached-all}
use Rattle.model.proofs.Runs.{Made, made, at_same}
use Rattle.model.proofs.Safety.{passed, checked, good_start, safety}
use Rattle.step_bound.proofs.CoveredEdges.{Covers, counting, covers, bound-rounds}
use Rattle.step_bound.proofs.RankFalls.{rank_of, rank_falls, first-exists, rank-starts}

-- ---- one run

module _ (ps : List Point) (passes : Passes ps) (t : Option ℕ) (covered : Covers ps t) (sizes : List ℕ) where
  -- the rank of a configuration
  abbrev left : Config → ℕ
  left c = rank_of ps t c.point c.registers

  -- away from STOP the rank falls
  one_less : (c d : Config) → Good ps sizes c → Good ps sizes d → at_stop ps c ≡ false → settled c (step_at ps c) ≡ at d → left d < left c
  one_less c d g h off e = go (step_at ps c) refl (step_kept ps passes sizes c g) (made (instruction_at ps c) c) e
    where
      go : (s : Step) → step_at ps c ≡ s → StepGood ps sizes c.tables.trays s → Made (instruction_at ps c) s → settled c s ≡ at d → left d < left c
      go (next b) q k m e = rank_falls ps sizes c d g h (q ∙ ap next (at_same e)) t covered
      go stopped q k m e = absurd (false≢true (sym off ∙ m))
      go error_state q k m e = absurd k

  module _ (c₀ : Config) (g : Good ps sizes c₀) where
    -- k steps, none of them from STOP, take k off the rank
    steps-less : (k : ℕ) → ((j : ℕ) → j < k → at_stop ps (reached-all ps passes sizes c₀ g j).config ≡ false) → left (reached-all ps passes sizes c₀ g k).config + k ≤ left c₀
    unfolding steps
    steps-less zero off = let same : (reached-all ps passes sizes c₀ g 0).config ≡ c₀ = sym (at_same (reached-all ps passes sizes c₀ g 0).reached) in rw same (omega arith)
    steps-less (suc k) off =
        let r = reached-all ps passes sizes c₀ g k in
        let q = reached-all ps passes sizes c₀ g (suc k) in
        let step : settled r.config (step_at ps r.config) ≡ at q.config = sym (ap (onward ps) r.reached) ∙ q.reached in
        let less = one_less r.config q.config r.good q.good (off k (omega arith)) step in
        let before = steps-less k (λ j h. off j (omega arith)) in
        omega arith

  -- what a run hands back: the claims met again, and a rank that is smaller by the steps made
  record WentDown (s : State) (made : ℕ) (s' : State) : Type 0 where
    sixteen : length s'.registers ≡ registers
    claims : meets_claims ps s' sizes ≡ true
    less : rank_of ps t s'.point s'.registers + made ≤ rank_of ps t s.point s.registers

  -- a run that runs well goes down so
  went_down : (s : State) (k : Call) (r : Ran) → Good ps sizes (config_of s k.tables) → RunsWell ps sizes s k r → WentDown s r.outcome.steps r.outcome.state
  went_down s k r g w =
      let c₀ = config_of s k.tables in
      let c₁ = config_of r.outcome.state r.tables in
      let made = r.outcome.steps in
      let q = reached-all ps passes sizes c₀ g made in
      let h = w.halted made (omega arith) in
      let same : q.config ≡ c₁ = at_same (sym q.reached ∙ w.handed_back) in
      let halt : h.config ≡ c₁ = at_same (sym h.reached ∙ w.handed_back) in
      let less : left q.config + made ≤ left c₀ = steps-less c₀ g made off in
      record {
        sixteen = subst (λ (c : Config). length c.registers ≡ registers) same q.good.typed.registers;
        claims = subst (λ (c : Config). meets_claims ps (state_of c) sizes ≡ true) halt h.claims;
        less = subst (λ (c : Config). left c + made ≤ left c₀) same less;
      }
    where
      off : (j : ℕ) → j < r.outcome.steps → at_stop ps (reached-all ps passes sizes (config_of s k.tables) g j).config ≡ false
      off j i =
          let h = w.halted j (omega arith) in
          let q = reached-all ps passes sizes (config_of s k.tables) g j in
          subst (λ (c : Config). at_stop ps c ≡ false) (at_same (sym h.reached ∙ q.reached)) (h.going i)

-- ---- a list of runs

-- a run that runs well
module _ (ps : List Point) (sizes : List ℕ) (s : State) (k : Call) (r : Ran) (w : RunsWell ps sizes s k r) where
  -- where it ends
  abbrev end : Config
  end = config_of r.outcome.state r.tables

  -- it ends stopped, or elsewhere with its budget spent
  ended-cases : {P : Type 0} → (r.outcome.report ≡ Stopped → at_stop ps end ≡ true → P) → (at_stop ps end ≡ false → r.outcome.steps ≡ k.budget → P) → P
  ended-cases {P} f g = go r.outcome.report refl w.ended
    where
      go : (x : Report) → r.outcome.report ≡ x → EndedWell ps end r.outcome.steps k.budget x → P
      go Stopped e h = f e h.0
      go Paused e h = g h.0 h.1
      go (refused_run x) e h = absurd h

  -- from STOP it makes no step, and so ends there
  stop-kept : at_stop ps (config_of s k.tables) ≡ true → at_stop ps end ≡ true
  unfolding steps
  stop-kept e = go r.outcome.steps refl
    where
      go : (made : ℕ) → r.outcome.steps ≡ made → at_stop ps end ≡ true
      go zero q =
          let back = w.handed_back in
          let same : config_of s k.tables ≡ end = at_same (rw q at back) in
          subst (λ (c : Config). at_stop ps c ≡ true) same e
      go (suc m) q =
          let h = w.halted 0 (omega arith) in
          let off : at_stop ps h.config ≡ false = h.going (omega arith) in
          absurd (false≢true (sym off ∙ subst (λ (c : Config). at_stop ps c ≡ true) (at_same h.reached) e))

  -- where it ends at STOP it says so
  stop-reported : at_stop ps end ≡ true → r.outcome.report ≡ Stopped
  stop-reported e = ended-cases (λ x on. x) (λ off spent. absurd (false≢true (sym off ∙ e)))

module _ (l : List ℕ) (sizes : List ℕ) where
  -- from STOP every run stops, the last one too
  stays-stopped : (s : State) (k : Call) (ks : List Call) → Kept l sizes s (k ∷ ks) → at_stop (points_of (listing_of l)) (config_of s k.tables) ≡ true → LastStops l s (k ∷ ks)
  stays-stopped s k [] h e =
      let on = stop-kept (points_of (listing_of l)) sizes s k (ran_on l s k) h.0 e in
      stop-reported (points_of (listing_of l)) sizes s k (ran_on l s k) h.0 on
  stays-stopped s k (j ∷ js) h e = stays-stopped (ran_on l s k).outcome.state j js h.1 (stop-kept (points_of (listing_of l)) sizes s k (ran_on l s k) h.0 e)

  -- the first run of some, where the others stop within what its steps leave of the bound
  first_of : (b : ℕ) (s : State) (k : Call) (ks : List Call) → Kept l sizes s (k ∷ ks) → (ran_on l s k).outcome.steps < b
      → StopsWithin (b - (ran_on l s k).outcome.steps) l (ran_on l s k).outcome.state ks → StopsWithin b l s (k ∷ ks)
  first_of b s k ks h below rest = record { steps = let few = rest.steps in omega arith; stops = λ enough. stops ks h.1 rest enough }
    where
      stops : (ks : List Call) → Kept l sizes (ran_on l s k).outcome.state ks → StopsWithin (b - (ran_on l s k).outcome.steps) l (ran_on l s k).outcome.state ks → b ≤ k.budget + budgets_of ks → LastStops l s (k ∷ ks)
      stops [] i r enough = ended-cases (points_of (listing_of l)) sizes s k (ran_on l s k) h.0 (λ e on. e) (λ off spent. absurd (omega arith))
      stops (j ∷ js) i r enough =
          ended-cases (points_of (listing_of l)) sizes s k (ran_on l s k) h.0 (λ e on. stays-stopped (ran_on l s k).outcome.state j js i on) (λ off spent. r.stops (omega arith))

  module _ (passes : Passes (points_of (listing_of l))) (t : Option ℕ) (covered : Covers (points_of (listing_of l)) t) where
    -- every bound above the rank holds
    above-rank : (s : State) → length s.registers ≡ registers → meets_claims (points_of (listing_of l)) s sizes ≡ true → (ks : List Call) → AllLend sizes ks → Kept l sizes s ks
        → (b : ℕ) → rank_of (points_of (listing_of l)) t s.point s.registers < b → StopsWithin b l s ks
    above-rank s sixteen e [] lends h b below = record { steps = omega arith; stops = λ enough. absurd (omega arith) }
    above-rank s sixteen e (k ∷ ks) lends h b below =
        let ps = points_of (listing_of l) in
        let r = ran_on l s k in
        let g = good_start ps passes sizes s k.tables sixteen lends.0.tables e in
        let d = went_down ps passes t covered sizes s k r g h.0 in
        first_of b s k ks h (omega (arith, d.less))
        (above-rank r.outcome.state d.sixteen d.claims ks lends.1 h.1 (b - r.outcome.steps) (omega (arith, d.less)))

-- ---- the answer of the call

-- a bound is answered where nothing turns the call back
bounded : (ps : List Point) (j : Judgement) (b : ℕ) → bound_from ps j ≡ Ok b → (j ≡ accepted) × (bound_of ps ≡ b)
bounded ps (Ok u) b e = (refl, cc)
bounded ps (Err r) b e = let z : ◌≡◌ {A = ℕ} 0 1 = cc in absurd (omega arith)

-- the promise of T-05
pub bound-holds : BoundHolds
unfolding step_bound
bound-holds l bound answer sizes s sixteen start e calls lends =
    let ps = points_of (listing_of l) in
    let (accepted, same) = bounded ps (listing_judged (listing_of l) and_then edges_covered ps (length ps)) bound answer in
    let (judged, edges) = both-accepted (listing_judged (listing_of l)) (edges_covered ps (length ps)) accepted in
    let pass : check l ≡ Ok (length ps) = passed l judged in
    let passes : Passes ps = (checked l (length ps) pass).passes in
    let first : PointLimited (point_at ps 0) = all-at PointLimited ps _ 0 (first-exists ps sizes s sixteen start e) passes.formed.limited in
    let covered : Covers ps (counting ps) = covers ps edges first.claims in
    let below : rank_of ps (counting ps) s.point s.registers < bound = rw (← same, bound-rounds ps) (rank-starts ps sizes s sixteen start e (counting ps) covered) in
    above-rank l sizes passes (counting ps) covered s sixteen e calls lends (safety l (length ps) pass sizes s sixteen e calls lends) bound below
