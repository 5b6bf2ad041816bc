-- The promise of T-06, proved: a run that is not turned back starts where the claims are met, and keeps to such states. Assumes nothing.
use Prim.Native.Nat.{ℕ, ◌≤◌}
use mathlib.Core.Path.{◌≡◌, refl, sym}
use mathlib.Core.Bool.{false, false≢true}
use mathlib.Core.List.{List, [], ◌∷◌}
use lib.ListN.{length}
use Rattle.model.specs.Types.{State, Judgement, accepted, Err, ClaimsNotMet, Ok}
use Rattle.model.specs.Limits.{registers}
use Rattle.model.specs.Answers.{◌and_then◌}
use Rattle.model.specs.Listing.{Point, listing_of, points_of, point_exists}
use Rattle.model.specs.Machine.{Tables, sizes_of, config_of}
use Rattle.model.specs.Check.{listing_judged}
use Rattle.model.specs.Run.{meets_claims, tables_fit, claims_met, state_judged, run_judged, Ran, ran_from, run_within, run_judged_within}
use Rattle.model.specs.Safety.{Call, Sized, ran_on}
use Rattle.model.specs.EmptyPoints.{turned_back, AwayFromEmpty, AvoidsEmpty, AllLendBytes, AllAvoidEmpty, EmptyNotReached}
use Rattle.model.proofs.Reading.{both-accepted, test-passed}
use Rattle.model.proofs.OneStep.{Good}
use Rattle.model.proofs.Steps.{Passes, not-empty, reached-all}
use Rattle.model.proofs.Runs.{ran}
use Rattle.model.proofs.Safety.{passed, checked, good_start}

-- where 1 to 17 accept a run, its first configuration is good
pub accepted-good : (l : List ℕ) (s : State) (t : Tables) → length s.registers ≡ registers → Sized (sizes_of t) t → run_judged l s (sizes_of t) ≡ accepted
    → Passes (points_of (listing_of l)) × Good (points_of (listing_of l)) (sizes_of t) (config_of s t)
unfolding run_judged_within
accepted-good l s t sixteen bytes e =
    let ps = points_of (listing_of l) in
    let (listing, state) = both-accepted (listing_judged (listing_of l)) (state_judged ps s (sizes_of t)) e in
    let (first, claims) = both-accepted (tables_fit (sizes_of t) and_then point_exists ps s.point) (claims_met ps s (sizes_of t)) state in
    let passes : Passes ps = (checked l (length ps) (passed l listing)).passes in
    (passes, good_start ps passes (sizes_of t) s t sixteen bytes (test-passed (meets_claims ps s (sizes_of t)) ClaimsNotMet claims))

module _ (l : List ℕ) where
  -- one run, by what its tests answer: it keeps away from empty points, and hands back sixteen registers
  one-run : (s : State) (k : Call) → length s.registers ≡ registers → Sized (sizes_of k.tables) k.tables
      → AvoidsEmpty l s k × (length (ran_on l s k).outcome.state.registers ≡ registers)
  unfolding run_within
  one-run s k sixteen bytes = go (run_judged l s (sizes_of k.tables)) refl
    where
      ps : List Point
      ps = points_of (listing_of l)

      Away : Ran → Type 0
      Away r = (turned_back r.outcome.report ≡ false → (j : ℕ) → j ≤ r.outcome.steps → AwayFromEmpty ps (config_of s k.tables) j) × (length r.outcome.state.registers ≡ registers)

      go : (j : Judgement) → run_judged l s (sizes_of k.tables) ≡ j → Away (ran_from j ps s k.tables k.budget)
      go (Err r) e = (λ b. absurd (false≢true (sym b)), sixteen)
      go (Ok u) e =
          let (passes, good) = accepted-good l s k.tables sixteen bytes e in (
            λ b j i.
                let r = reached-all ps passes (sizes_of k.tables) (config_of s k.tables) good j in
                record { config = r.config; reached = r.reached; exists = r.good.exists; non_empty = not-empty ps passes (sizes_of k.tables) r.config r.good },
            (ran ps passes (sizes_of k.tables) (config_of s k.tables) good k.budget).good.typed.registers,
          )

  all_runs : (s : State) → length s.registers ≡ registers → (ks : List Call) → AllLendBytes ks → AllAvoidEmpty l s ks
  all_runs s sixteen [] bytes = tt
  all_runs s sixteen (k ∷ ks) bytes =
      let (one, back) = one-run s k sixteen bytes.0 in
      (one, all_runs (ran_on l s k).outcome.state back ks bytes.1)

-- the promise of T-06
pub empty-not-reached : EmptyNotReached
empty-not-reached l s sixteen calls bytes = all_runs l s sixteen calls bytes
