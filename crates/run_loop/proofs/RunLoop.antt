-- The loop of a run keeps `Going`: how it starts, goes on and ends; and what a run that is turned back hands back. Assumes nothing.
use Prim.Native.Nat.{ℕ, zero, suc, ◌+◌, ◌-◌, ◌≤◌, ◌<◌}
use mathlib.Core.Bool.{Bool, true, false, cond, false≢true}
use mathlib.Core.List.{List}
use mathlib.Core.Path.{◌≡◌, refl, sym, ap, subst, ◌∙◌}
use native.Mathlib.Nat.{add-zero, add-suc}
use native.Mathlib.Numerals.{add-one}
use native.Mathlib.Omega.{arith}
use lib.ListN.{length, get_or, take}
use lib.Seq.{take_at}
use Rattle.model.specs.Limits as Limits
use Rattle.model.specs.declared.machine.Instruction.{Instruction}
use Rattle.model.specs.declared.machine.Table.{Table}
use Rattle.model.specs.declared.machine.Table.TheVariants.{Trays, Results}
use Rattle.model.specs.declared.machine.State.{State}
use Rattle.model.specs.declared.answers.Refusal.{Refusal}
use Rattle.model.specs.Types.{Judgement, accepted}
use Rattle.std.specs.Prelude.{Err}
use Rattle.model.specs.declared.answers.Report.TheVariants.{Stopped, Paused, Refused as refused_run}
use Rattle.model.specs.declared.answers.Outcome.{Outcome}
use Rattle.model.specs.Limits.{registers}
use Rattle.model.specs.Listing.{Point, point_at, Listing, read_as, refused_listing, listing_of, points_of}
use Rattle.model.specs.Machine.{Tables, lent, table_of, sizes_of, Config, config_of, values_from, Step, next, stopped, error_state, step_of, step_at, at, settled}
use Rattle.model.specs.Check.{listing_judged}
use Rattle.model.specs.Instructions.{is_stop}
use Rattle.model.specs.Run.{meets_claims, state_judged, run_judged, Progress, progress, advanced, run_for, Ran, finished, ran_from, run, run_within, run_judged_within}
use Rattle.model.proofs.Lists.{all-at}
use Rattle.model.proofs.Reading.{PointLimited, well-formed}
use Rattle.model.proofs.OneStep.{Good, StepGood}
use Rattle.model.proofs.Steps.{Passes, each-accepted, step_kept}
use Rattle.model.proofs.Runs.{Made, made}
use Rattle.model.proofs.Safety.{good_start}
use Rattle.steps.specs.Stepped.{config, ValuesOver, Steppable, Stepped}
use Rattle.state_tests.specs.States.{state}
use Rattle.run_loop.specs.Runs.{outcome, RunByValue}

-- what is known of the points of a listing that passes
pub passes : (s : List ℕ) → listing_judged (listing_of s) ≡ accepted → Passes (points_of (listing_of s))
passes s passed = go (listing_of s) refl passed
  where
    go : (x : Listing) → listing_of s ≡ x → listing_judged x ≡ accepted → Passes (points_of (listing_of s))
    go (refused_listing r) q j = let z : ◌≡◌ {A = ℕ} 0 1 = cc in absurd (omega arith)
    go (read_as ps) q j = rw q (record { formed = well-formed s ps q; owed = each-accepted ps (length ps) j })

at_same : {c d : Config} → at c ≡ at d → c ≡ d
at_same e = cc

module _ (ps : List Point) (sizes : List ℕ) (b : ℕ) (c₀ : Config) where
  -- so many steps are made, and led to this point, these values and these bytes
  pub record Going (made p : ℕ) (vs : List ℕ) (t : Tables) : Type 0 where
    pub within : made ≤ b
    pub over : ValuesOver vs t
    pub good : Good ps sizes (config p vs t)
    pub came : run_for ps made c₀ ≡ progress made (config p vs t)

  -- at STOP the run stays
  stays : (k j : ℕ) (c : Config) → run_for ps k c₀ ≡ progress k c → step_at ps c ≡ stopped → run_for ps (k + j) c₀ ≡ progress k c
  unfolding run_for
  stays k zero c e s = rw add-zero e
  stays k (suc j) c e s = rw (add-suc, stays k j c e s, s)

  run-next : (k : ℕ) → run_for ps (suc k) c₀ ≡ advanced (run_for ps k c₀) (step_at ps (run_for ps k c₀).config)
  unfolding run_for
  run-next k = refl

  module _ (pass : Passes ps) {steps p : ℕ} {vs : List ℕ} {t : Tables} (g : Going steps p vs t) (i : Instruction) (same : i ≡ (point_at ps p).instruction) where
    -- the step that is made is no error
    pub steppable : p < Limits.greatest_points → Steppable i p vs t
    steppable few =
        let lim : PointLimited (point_at ps p) = all-at PointLimited ps _ p g.good.exists pass.formed.limited in
        record {
          point = few;
          limited = rw same lim.instruction;
          values = g.over;
          safe = λ e. subst (StepGood ps sizes t.trays) (ap (λ (x : Instruction). step_of x (config p vs t)) (sym same) ∙ e) (step_kept ps pass sizes (config p vs t) g.good);
        }

    stop_step : is_stop i ≡ true → step_at ps (config p vs t) ≡ stopped
    stop_step k = go (step_at ps (config p vs t)) refl (made (point_at ps p).instruction (config p vs t)) (step_kept ps pass sizes (config p vs t) g.good)
      where
        here : is_stop (point_at ps p).instruction ≡ true
        here = ap is_stop (sym same) ∙ k

        go : (s : Step) → step_at ps (config p vs t) ≡ s → Made (point_at ps p).instruction s → StepGood ps sizes t.trays s → step_at ps (config p vs t) ≡ stopped
        go (next c) e q h = absurd (false≢true (sym q ∙ here))
        go stopped e q h = e
        go error_state e q h = absurd h

    -- the whole run, where it stands at STOP or its budget is spent
    ended_here : (x : Bool) → is_stop i ≡ x → run_for ps b c₀ ≡ progress steps (config p vs t)
        → finished ps (run_for ps b c₀) ≡ record { outcome = outcome (cond x Stopped Paused) (state p (take registers vs)) steps; tables = t }
    ended_here x e r = ap (finished ps) r ∙ rw (sym (ap is_stop same) ∙ e)

    pub stopped-here : is_stop i ≡ true → finished ps (run_for ps b c₀) ≡ record { outcome = outcome Stopped (state p (take registers vs)) steps; tables = t }
    stopped-here e =
        let all : steps + (b - steps) ≡ b = let w = g.within in omega arith in
        ended_here true e (rw all at (stays steps (b - steps) (config p vs t) g.came (stop_step e)))

    pub paused-here : is_stop i ≡ false → steps ≡ b → finished ps (run_for ps b c₀) ≡ record { outcome = outcome Paused (state p (take registers vs)) steps; tables = t }
    paused-here e q = ended_here false e (ap (λ (k : ℕ). run_for ps k c₀) (sym q) ∙ g.came)

    pub spent-here : steps ≡ b → finished ps (run_for ps b c₀) ≡ record { outcome = outcome (cond (is_stop i) Stopped Paused) (state p (take registers vs)) b; tables = t }
    spent-here q = ended_here (is_stop i) refl (ap (λ (k : ℕ). run_for ps k c₀) (sym q) ∙ g.came)
        ∙ ap (λ (n : ℕ). record { outcome = outcome (cond (is_stop i) Stopped Paused) (state p (take registers vs)) n; tables = t }) q

    -- one step more
    pub goes_on : is_stop i ≡ false → (steps ≡ b → ⊥) → (p' : ℕ) (vs' : List ℕ) (t' : Tables) → Stepped i p vs t p' vs' t' → Going (steps + 1) p' vs' t'
    goes_on k left p' vs' t' s = go (step_at ps (config p vs t)) refl (made (point_at ps p).instruction (config p vs t)) (step_kept ps pass sizes (config p vs t) g.good)
      where
        here : is_stop (point_at ps p).instruction ≡ false
        here = ap is_stop (sym same) ∙ k

        led : at (config p' vs' t') ≡ settled (config p vs t) (step_at ps (config p vs t))
        led = s.led ∙ ap (λ (x : Instruction). settled (config p vs t) (step_of x (config p vs t))) same

        go : (x : Step) → step_at ps (config p vs t) ≡ x → Made (point_at ps p).instruction x → StepGood ps sizes t.trays x → Going (steps + 1) p' vs' t'
        go (next c) e q h =
            let is : config p' vs' t' ≡ c = at_same (led ∙ ap (settled (config p vs t)) e) in
            record {
              within = let w = g.within in omega arith;
              over = s.values;
              good = subst (Good ps sizes) (sym is) h.0;
              came = rw add-one (run-next steps ∙ ap (λ (x : Progress). advanced x (step_at ps x.config)) g.came ∙ rw (e, add-one, is));
            }
        go stopped e q h = absurd (false≢true (sym here ∙ q))
        go error_state e q h = absurd h

-- the values begin with the registers of the state
front-is : (s : State) (vs : List ℕ) (t : Tables) → length s.registers ≡ registers → vs ≡ values_from s.registers (sizes_of t) → take registers vs ≡ s.registers
front-is s vs t sixteen v = ap (take registers) v ∙ take_at s.registers _ registers sixteen

pub start_is : (s : State) (vs : List ℕ) (t : Tables) → length s.registers ≡ registers → vs ≡ values_from s.registers (sizes_of t) → config s.point vs t ≡ config_of s t
start_is s vs t sixteen v = ap (λ (l : List ℕ). record { point = s.point; registers = l; tables = t }) (front-is s vs t sixteen v)

-- before the first step
pub at-start : (ps : List Point) (b : ℕ) → Passes ps → (s : State) (vs : List ℕ) (t : Tables) → length s.registers ≡ registers → ((b : Table) (i : ℕ) → get_or (table_of b t) i 0 < 256)
    → meets_claims ps s (sizes_of t) ≡ true → vs ≡ values_from s.registers (sizes_of t) → Going ps (sizes_of t) b (config s.point vs t) 0 s.point vs t
unfolding run_for
at-start ps b pass s vs t sixteen bytes e v =
    let front = front-is s vs t sixteen v in
    let same = start_is s vs t sixteen v in
    record {
      within = omega arith;
      over = v ∙ ap (λ (l : List ℕ). values_from l (sizes_of t)) (sym front);
      good = subst (Good ps (sizes_of t)) (sym same) (good_start ps pass (sizes_of t) s t sixteen (record { size = refl; byte = bytes }) e);
      came = refl;
    }

-- the bytes of both tables that are lent
pub lent-bytes : (ts rs : List ℕ) → ((i : ℕ) → get_or ts i 0 < 256) → ((i : ℕ) → get_or rs i 0 < 256) → (b : Table) (i : ℕ) → get_or (table_of b (lent ts rs)) i 0 < 256
lent-bytes ts rs t r Trays = t
lent-bytes ts rs t r Results = r

module _ (l : List ℕ) (s : State) (t : Tables) (b : ℕ) where
  run_by : (j : Judgement) → run_judged l s (sizes_of t) ≡ j → run l s t b ≡ ran_from j (points_of (listing_of l)) s t b
  unfolding run_within
  run_by j e = ap (λ (x : Judgement). ran_from x (points_of (listing_of l)) s t b) e

  -- turned back by 1 to 14 or 19
  pub listing-refused : (r : Refusal) → listing_judged (listing_of l) ≡ Err r → RunByValue (run l s t b) (outcome (refused_run r) s 0) t.results
  unfolding run_judged_within
  listing-refused r e =
      let q = run_by (Err r) (rw e) in
      record { outcome = sym (ap (λ (x : Ran). x.outcome) q); results = sym (ap (λ (x : Ran). x.tables.results) q) }

  module _ (passed : listing_judged (listing_of l) ≡ accepted) where
    judged-as : run_judged l s (sizes_of t) ≡ state_judged (points_of (listing_of l)) s (sizes_of t)
    unfolding run_judged_within
    judged-as = rw passed

    -- turned back by 15 to 17
    pub state-refused : (r : Refusal) → state_judged (points_of (listing_of l)) s (sizes_of t) ≡ Err r → RunByValue (run l s t b) (outcome (refused_run r) s 0) t.results
    state-refused r e =
        let q = run_by (Err r) (judged-as ∙ e) in
        record { outcome = sym (ap (λ (x : Ran). x.outcome) q); results = sym (ap (λ (x : Ran). x.tables.results) q) }

    -- the run as it ended
    pub ran_to : state_judged (points_of (listing_of l)) s (sizes_of t) ≡ accepted → (c₀ : Config) → c₀ ≡ config_of s t → (o : Outcome) (t' : Tables)
        → finished (points_of (listing_of l)) (run_for (points_of (listing_of l)) b c₀) ≡ record { outcome = o; tables = t' }
        → RunByValue (run l s t b) o t'.results
    ran_to e c₀ same o t' f =
        let q = run_by accepted (judged-as ∙ e) ∙ ap (λ (c : Config). finished (points_of (listing_of l)) (run_for (points_of (listing_of l)) b c)) (sym same) ∙ f in
        record { outcome = sym (ap (λ (x : Ran). x.outcome) q); results = sym (ap (λ (x : Ran). x.tables.results) q) }
