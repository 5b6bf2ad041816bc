-- The bound of a listing whose rows and places were filled and judged. Assumes nothing.
use mathlib.Core.Path.{◌≡◌, sym, ap, ◌∙◌}
use mathlib.Core.List.{List}
use Prim.Native.Nat.{ℕ}
use Rattle.model.specs.declared.answers.Refusal.{Refusal}
use Rattle.model.specs.Types.{accepted, Verdict}
use Rattle.std.specs.Prelude.{Ok, Err}
use Rattle.model.specs.Listing.{listing_of, points_of}
use Rattle.model.specs.Check.{listing_judged}
use Rattle.model.specs.Bound.{edges_covered, bound_from, step_bound}
use Rattle.line_rows.specs.declared.rows.Row.{Row}
use Rattle.rows_and_places.specs.declared.places.Place.{Place}
use Rattle.rows_and_places.specs.Points.{points_in}
use Rattle.rows_and_places.proofs.PlacedPoints.{points-count}
use Rattle.checker.specs.Judged.{judgement_of, Judged}

module _ (s : List ℕ) (v : Verdict) (rows : List Row) (at : List Place) (judged : Judged s v rows at) where
  pub bound-refused : (r : Refusal) → v ≡ Err r → Err r ≡ step_bound s
  unfolding step_bound
  bound-refused r e = let same : listing_judged (listing_of s) ≡ Err r = sym judged.judgement ∙ ap judgement_of e in rw same

  pub bound-accepted : (n : ℕ) → v ≡ Ok n → bound_from (points_in rows at n) (edges_covered (points_in rows at n) n) ≡ step_bound s
  unfolding step_bound
  bound-accepted n e =
      let same : listing_judged (listing_of s) ≡ accepted = sym judged.judgement ∙ ap judgement_of e in
      let points : points_of (listing_of s) ≡ points_in rows at n = ap points_of (judged.held n e).points in
      rw (same, points, points-count rows at n)
