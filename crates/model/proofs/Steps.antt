-- k steps of a passed listing: where they lead, and that k steps and then j are k + j. Assumes nothing.
use mathlib.Core.Path.{◌≡◌, refl, ap, sym, ◌∙◌}
use mathlib.Core.Bool.{true, false, not, false≢true}
use mathlib.Core.List.{List, [], ◌∷◌}
use Prim.Native.Nat.{ℕ, zero, suc, ◌+◌, ◌-◌, ◌<◌}
use native.Mathlib.Nat.{add-zero, add-suc, not-suc-le-zero, le_of_suc-le-suc}
use native.Mathlib.Omega.{arith}
use native.Mathlib.Decide.{ℕ_discrete, dec_lt}
use lib.ListN.{length, get_or}
use Rattle.model.specs.Types.{accepted}
use Rattle.model.specs.Limits.{today}
use Rattle.model.specs.Instructions.{targets, goes_on}
use Rattle.model.specs.Listing.{Point, is_empty, point_at, targets_exist, all_targets_exist}
use Rattle.model.specs.Facts.{facts_of}
use Rattle.model.specs.Machine.{Config, value_of, Step, next, stopped, error_state, step_at, Machine, at, settled, onward, steps}
use Rattle.model.specs.Check.{point_judged, points_judged}
use Rattle.model.proofs.Lists.{all-at}
use Rattle.model.proofs.Follows.{is-possible}
use Rattle.model.proofs.OwedPoints.{owes}
use Rattle.model.proofs.Reading.{both-accepted, PointLimited, WellFormed}
use Rattle.model.proofs.OneStep.{Good, StepGood, step-good}

-- k steps and then j are k + j steps
pub steps-add : (ps : List Point) (k j : ℕ) (m : Machine) → steps ps (k + j) m ≡ steps ps j (steps ps k m)
unfolding steps
steps-add ps k zero m = rw add-zero
steps-add ps k (suc j) m = rw add-suc (ap (onward ps) (steps-add ps k j m))

-- the points of a listing that passes: well-formed, and each point has what it owes
pub record Passes (ps : List Point) : Type 0 where
  pub formed : WellFormed ps
  pub owed : (p : ℕ) → p < length ps → point_judged today ps p (point_at ps p) ≡ accepted

pub each-accepted : (ps : List Point) (n : ℕ) → points_judged today ps n ≡ accepted → (p : ℕ) → p < n → point_judged today ps p (point_at ps p) ≡ accepted
unfolding points_judged
each-accepted ps zero e p h = absurd (not-suc-le-zero h)
each-accepted ps (suc n) e p h = go (ℕ_discrete p n) (each-accepted ps n (both-accepted (points_judged today ps n) _ e).0)
  where
    go : Dec (p ≡ n) → ((q : ℕ) → q < n → point_judged today ps q (point_at ps q) ≡ accepted) → point_judged today ps p (point_at ps p) ≡ accepted
    go (yes q) f = rw q (both-accepted (points_judged today ps n) _ e).1
    go (no q) f = f p (omega arith)

pub targets-at : (n : ℕ) (qs : List Point) (d : Point) (p : ℕ) → p < length qs → all_targets_exist n qs ≡ accepted → targets_exist n (get_or qs p d).line (targets (get_or qs p d).instruction) ≡ accepted
targets-at n [] d p h e = absurd (not-suc-le-zero h)
targets-at n (q ∷ qs) d zero h e = (both-accepted (targets_exist n q.line (targets q.instruction)) _ e).0
targets-at n (q ∷ qs) d (suc p) h e = targets-at n qs d p (le_of_suc-le-suc h) (both-accepted (targets_exist n q.line (targets q.instruction)) _ e).1

module _ (ps : List Point) (passes : Passes ps) (sizes : List ℕ) where
  -- an instruction that goes on is not the last
  not_last : (p : ℕ) → p < length ps → goes_on (point_at ps p).instruction ≡ true → p + 1 < length ps
  not_last p h e = go (dec_lt (p + 1) (length ps))
    where
      go : Dec (p + 1 < length ps) → p + 1 < length ps
      go (yes i) = i
      go (no i) =
          let last : length ps - 1 ≡ p = omega arith in
          let end : goes_on (point_at ps p).instruction ≡ false = rw last at passes.formed.ends in
          absurd (false≢true (sym end ∙ e))

  -- a configuration that meets the claims of its point does not stand at an empty one
  pub not-empty : (c : Config) → Good ps sizes c → is_empty (point_at ps c.point) ≡ false
  not-empty c g = ap not (is-possible (value_of c) (facts_of (point_at ps c.point).claims) g.met)

  pub step_kept : (c : Config) → Good ps sizes c → StepGood ps sizes c.tables.trays (step_at ps c)
  step_kept c g =
      let q = point_at ps c.point in
      let lim : PointLimited q = all-at PointLimited ps _ c.point g.exists passes.formed.limited in
      step-good ps passes.formed.limited sizes c g.typed q.line q.claims g.met q.instruction lim.instruction
      (not_last c.point g.exists) (targets-at (length ps) ps _ c.point g.exists passes.formed.targets) (sym (owes ps c.point q (not-empty c g)) ∙ passes.owed c.point g.exists)

  -- where k steps lead
  pub record Reached (c₀ : Config) (k : ℕ) : Type 0 where
    pub config : Config
    pub reached : steps ps k (at c₀) ≡ at config
    pub good : Good ps sizes config
    pub trays : config.tables.trays ≡ c₀.tables.trays

  pub reached-all : (c₀ : Config) → Good ps sizes c₀ → (k : ℕ) → Reached c₀ k
  unfolding steps
  reached-all c₀ g zero = record { config = c₀; reached = refl; good = g; trays = refl }
  reached-all c₀ g (suc k) = one (reached-all c₀ g k)
    where
      one : Reached c₀ k → Reached c₀ (suc k)
      one r = go (step_at ps r.config) refl (step_kept r.config r.good)
        where
          go : (s : Step) → step_at ps r.config ≡ s → StepGood ps sizes r.config.tables.trays s → Reached c₀ (suc k)
          go (next c) e h = record { config = c; reached = ap (onward ps) r.reached ∙ ap (settled r.config) e; good = h.0; trays = h.1 ∙ r.trays }
          go stopped e h = record { config = r.config; reached = ap (onward ps) r.reached ∙ ap (settled r.config) e; good = r.good; trays = r.trays }
          go error_state e h = absurd h
