-- Demand 3, proved. Assumes nothing.
use mathlib.Core.Path.{◌≡◌, refl, ap, sym, subst}
use mathlib.Core.Bool.{Bool, true, false, cond}
use mathlib.Core.List.{List, [], ◌∷◌}
use Prim.Native.Nat.{ℕ, ◌≤◌, ◌<◌}
use native.Mathlib.Omega.{arith}
use lib.ListN.{length, length-append}
use lib.Dec.{ltb, leb}
use borrow.Author.Tests.{ltb-true, lt-ltb, le-leb}
use Rattle.model.specs.Types.{Table, Trays, Results, State, Judgement, accepted, Err, Ok, Stopped, Paused}
use Rattle.model.specs.Limits.{registers, tables, variables, greatest_size, today}
use Rattle.model.specs.Lists.{every}
use Rattle.model.specs.Facts.{facts_of, value_at}
use Rattle.model.specs.Listing.{Point, point_at, Listing, read_as, refused_listing, listing_of, points_of, point_exists}
use Rattle.model.specs.Machine.{Tables, table_of, sizes_of, size_variable, Config, config_of, state_of, values_from, values}
use Rattle.model.specs.Check.{points_judged, listing_judged, verdict_from, verdict_within, check, check_within}
use Rattle.model.specs.Run.{meets_claims, tables_fit, claims_met, run_judged, run_for, at_stop, Ran, finished, ran_from, run_within, run_judged_within}
use Rattle.model.specs.Safety.{Call, Sized, AllLend, HaltedWell, EndedWell, RunsWell, ran_on, Kept, Safety}
use Rattle.model.proofs.Tests.{and_left, and_right, and_both}
use Rattle.model.proofs.Lists.{all-at}
use Rattle.model.proofs.Meaning.{Met, met, meets-met}
use Rattle.model.proofs.Facts.{facts-long, top, top-claimed, Bounded, met-bounded}
use Rattle.model.proofs.Reading.{accepted-both, passed-test, PointLimited, well-formed}
use Rattle.model.proofs.OneStep.{Typed, size-value, Good, StepGood}
use Rattle.model.proofs.Steps.{Passes, each-accepted, step_kept, reached-all}
use Rattle.model.proofs.Runs.{ran}

-- what passing gives
pub record Checked (l : List ℕ) : Type 0 where
  pub passes : Passes (points_of (listing_of l))
  accepted : listing_judged (listing_of l) ≡ accepted

pub verdict-accepted : (n k : ℕ) (j : Judgement) → verdict_from n j ≡ Ok k → j ≡ accepted
verdict-accepted n k (Ok u) e = refl
verdict-accepted n k (Err r) e = let z : ◌≡◌ {A = ℕ} 0 1 = cc in absurd (omega arith)

pub checked : (l : List ℕ) (k : ℕ) → check l ≡ Ok k → Checked l
unfolding check_within
checked l k e = go (listing_of l) refl e
  where
    go : (x : Listing) → listing_of l ≡ x → verdict_within today x ≡ Ok k → Checked l
    go (refused_listing r) q v = let z : ◌≡◌ {A = ℕ} 0 1 = cc in absurd (omega arith)
    go (read_as ps) q v =
        let j : points_judged today ps (length ps) ≡ accepted = verdict-accepted (length ps) k _ v in
        record {
          passes = rw q (record { formed = well-formed l ps q; owed = each-accepted ps (length ps) j });
          accepted = rw q j;
        }

-- an accepted listing is passed
pub passed : (l : List ℕ) → listing_judged (listing_of l) ≡ accepted → check l ≡ Ok (length (points_of (listing_of l)))
unfolding check_within
passed l e = go (listing_of l) e
  where
    go : (x : Listing) → listing_judged x ≡ accepted → verdict_within today x ≡ Ok (length (points_of x))
    go (read_as ps) e = ap (verdict_from (length ps)) e
    go (refused_listing r) e = let z : ◌≡◌ {A = ℕ} 0 1 = cc in absurd (omega arith)

-- the unclaimed end of a size
top-size : (b : Table) → top (size_variable b) ≡ greatest_size
top-size Trays = top-claimed (size_variable Trays) (omega arith)
top-size Results = top-claimed (size_variable Results) (omega arith)

module _ (ps : List Point) (passes : Passes ps) (sizes : List ℕ) where
  -- where the claims hold of a state, its configuration is good over tables of these sizes
  pub good_start : (s : State) (t : Tables) → length s.registers ≡ registers → Sized sizes t → meets_claims ps s sizes ≡ true → Good ps sizes (config_of s t)
  unfolding meets_claims
  good_start s t sixteen z e =
      let inside : s.point < length ps = ltb-true _ _ (and_left (ltb s.point (length ps)) _ e) in
      let cs = (point_at ps s.point).claims in
      let vs = values_from s.registers sizes in
      let few : length sizes ≡ tables = sym (ap length z.size) in
      let long : length vs ≡ variables = simp length-append (omega arith) in
      let h : Met (value_at vs) (facts_of cs) = met vs (facts_of cs) long (facts-long cs) (and_right (ltb s.point (length ps)) _ e) in
      let lim : PointLimited (point_at ps s.point) = all-at PointLimited ps _ s.point inside passes.formed.limited in
      let b : Bounded (value_at vs) = met-bounded (value_at vs) cs lim.claims h in
      let same : vs ≡ values (config_of s t) = ap (values_from s.registers) (sym z.size) in
      record {
        exists = inside;
        typed = record { registers = sixteen; tables = z; bounded = subst (λ (us : List ℕ). Bounded (value_at us)) same b };
        met = subst (λ (us : List ℕ). Met (value_at us) (facts_of cs)) same h;
      }

  good-meets : (c : Config) → Good ps sizes c → meets_claims ps (state_of c) sizes ≡ true
  unfolding meets_claims
  good-meets c g =
      and_both _ _ (lt-ltb _ _ g.exists)
      (rw (← g.typed.tables.size) (meets-met (values c) (facts_of (point_at ps c.point).claims) g.met))

  -- a size is at most the unclaimed end of its variable
  size_fits_lem : (c : Config) → Typed sizes c → (b : Table) → length (table_of b c.tables) ≤ greatest_size
  size_fits_lem c t b = omega (arith, t.bounded (size_variable b), size-value sizes c t b, top-size b)

  -- a run halted after j of its steps
  halted : (c₀ : Config) (b : ℕ) → Good ps sizes c₀ → (j : ℕ) → HaltedWell ps sizes c₀ (run_for ps b c₀).steps j
  halted c₀ b g j =
      let r = reached-all ps passes sizes c₀ g j in
      record {
        config = r.config;
        reached = r.reached;
        claims = good-meets r.config r.good;
        trays = r.trays;
        size = r.good.typed.tables.size;
        safe = λ e. subst (StepGood ps sizes r.config.tables.trays) e (step_kept ps passes sizes r.config r.good);
        going = λ i. (ran ps passes sizes c₀ g b).going j i r.config r.reached;
      }

  -- how a run ends
  ended : (c₀ : Config) (b : ℕ) → Good ps sizes c₀ → EndedWell ps (run_for ps b c₀).config (run_for ps b c₀).steps b (cond (at_stop ps (run_for ps b c₀).config) Stopped Paused)
  ended c₀ b g = go (at_stop ps (run_for ps b c₀).config) refl
    where
      go : (x : Bool) → at_stop ps (run_for ps b c₀).config ≡ x → EndedWell ps (run_for ps b c₀).config (run_for ps b c₀).steps b (cond x Stopped Paused)
      go true e = (e, (ran ps passes sizes c₀ g b).few)
      go false e = (e, (ran ps passes sizes c₀ g b).spent e)

  runs-well : (s : State) (k : Call) → Good ps sizes (config_of s k.tables) → RunsWell ps sizes s k (finished ps (run_for ps k.budget (config_of s k.tables)))
  runs-well s k g = record {
    ended = ended (config_of s k.tables) k.budget g;
    halted = λ j i. halted (config_of s k.tables) k.budget g j;
    handed_back = (ran ps passes sizes (config_of s k.tables) g k.budget).led;
  }

module _ (l : List ℕ) (h : Checked l) (sizes : List ℕ) where
  -- nothing turns the run back
  not-refused : (s : State) (t : Tables) → Good (points_of (listing_of l)) sizes (config_of s t) → run_judged l s (sizes_of t) ≡ accepted
  unfolding run_judged_within every
  not-refused s t g =
      let ps = points_of (listing_of l) in
      let small : (b : Table) → leb (length (table_of b t)) greatest_size ≡ true = λ b. le-leb _ _ (size_fits_lem ps h.passes sizes (config_of s t) g.typed b) in
      let fits : tables_fit (sizes_of t) ≡ accepted = passed-test _ _ (and_both _ _ (small Trays) (and_both _ _ (small Results) refl)) in
      let exists : point_exists ps s.point ≡ accepted = passed-test _ _ (lt-ltb _ _ g.exists) in
      let claims : claims_met ps s (sizes_of t) ≡ accepted = passed-test _ _ (subst (λ (z : List ℕ). meets_claims ps s z ≡ true) (sym g.typed.tables.size) (good-meets ps h.passes sizes (config_of s t) g)) in
      accepted-both _ _ h.accepted (accepted-both _ _ (accepted-both _ _ fits exists) claims)

  kept : (s : State) → length s.registers ≡ registers → meets_claims (points_of (listing_of l)) s sizes ≡ true → (ks : List Call) → AllLend sizes ks → Kept l sizes s ks
  unfolding run_within
  kept s sixteen e [] lends = tt
  kept s sixteen e (k ∷ ks) lends =
      let ps = points_of (listing_of l) in
      let g = good_start ps h.passes sizes s k.tables sixteen lends.0.tables e in
      let p = run_for ps k.budget (config_of s k.tables) in
      let back : Good ps sizes p.config = (ran ps h.passes sizes (config_of s k.tables) g k.budget).good in
      let same : finished ps p ≡ ran_on l s k = ap (λ (j : Judgement). ran_from j ps s k.tables k.budget) (sym (not-refused s k.tables g)) in
      subst (λ (r : Ran). RunsWell ps sizes s k r × Kept l sizes r.outcome.state ks) same
      (runs-well ps h.passes sizes s k g, kept (state_of p.config) back.typed.registers (good-meets ps h.passes sizes p.config back) ks lends.1)

-- demand 3
pub safety : Safety
safety l points pass sizes s sixteen e calls lends = kept l (checked l points pass) sizes s sixteen e calls lends
