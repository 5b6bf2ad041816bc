-- A listing that is read or turned back, and the checker's answer from it. Assumes nothing.
use mathlib.Core.Path.{◌≡◌, refl, sym, ap, ap₂, subst, ◌∙◌}
use mathlib.Core.List.{List}
use Prim.Native.Nat.{ℕ}
use native.Mathlib.Omega.{arith}
use lib.ListN.{length}
use Rattle.model.specs.declared.answers.Refusal.{Refusal}
use Rattle.model.specs.Types.{accepted}
use Rattle.std.specs.Prelude.{Err, Ok}
use Rattle.model.specs.Limits.{today}
use Rattle.model.specs.Listing.{Listing, read_as, refused_listing, listing_of, points_of}
use Rattle.model.specs.Check.{points_judged, listing_judged, verdict_from, verdict_within, check, check_within}
use Rattle.line_rows.specs.declared.rows.Row.{Row}
use Rattle.rows_and_places.specs.declared.places.Place.{Place}
use Rattle.rows_and_places.specs.Points.{points_in}
use Rattle.reader.specs.Listing.{Stands}
use Rattle.rows_and_places.proofs.PlacedPoints.{points-count}
use Rattle.checker.specs.Judged.{Held, Judged}

-- the answer from the judgement
answered : (x : Listing) → verdict_within today x ≡ verdict_from (length (points_of x)) (listing_judged x)
answered (read_as ps) = refl
answered (refused_listing r) = refl

check-is : (s : List ℕ) → check s ≡ verdict_from (length (points_of (listing_of s))) (listing_judged (listing_of s))
unfolding check_within
check-is s = answered (listing_of s)

-- what is refused is answered so, and no points are held
refused-by : (s : List ℕ) (rows : List Row) (at : List Place) (r : Refusal) → Err r ≡ listing_judged (listing_of s) → Judged s (Err r) rows at
refused-by s rows at r e = record {
  answer = sym (check-is s ∙ ap (verdict_from (length (points_of (listing_of s)))) (sym e));
  judgement = e;
  held = λ n q. let z : ◌≡◌ {A = ℕ} 0 1 = cc in absurd (omega arith);
}

module _ (s : List ℕ) (rows : List Row) (at : List Place) where
  -- a listing that is turned back while it is read stays so
  pub judged-refused_listing : (r : Refusal) → Stands (listing_of s) (Err r) rows at → Judged s (Err r) rows at
  judged-refused_listing r stands = refused-by s rows at r (go (listing_of s) stands)
    where
      go : (x : Listing) → Stands x (Err r) rows at → Err r ≡ listing_judged x
      go (read_as ps) h = absurd h
      go (refused_listing x) h = ap Err h

  module _ (n : ℕ) (stands : Stands (listing_of s) (Ok n) rows at) where
    held : Held s rows at n
    held = go (listing_of s) refl stands
      where
        go : (x : Listing) → listing_of s ≡ x → Stands x (Ok n) rows at → Held s rows at n
        go (read_as ps) q h = record { points = q ∙ ap read_as (sym h.0); holds = h.1 }
        go (refused_listing x) q h = absurd h

    by-points : points_judged today (points_in rows at n) n ≡ listing_judged (listing_of s)
    by-points = ap (points_judged today (points_in rows at n)) (sym (points-count rows at n)) ∙ sym (ap listing_judged held.points)

    -- a listing that is read is judged by its points
    pub judged-refused_points : (r : Refusal) → points_judged today (points_in rows at n) n ≡ Err r → Judged s (Err r) rows at
    judged-refused_points r e = refused-by s rows at r (sym e ∙ by-points)

    pub judged-passed : (u : Unit {0}) → points_judged today (points_in rows at n) n ≡ Ok u → Judged s (Ok n) rows at
    judged-passed u e =
        let judged : accepted ≡ listing_judged (listing_of s) = sym e ∙ by-points in
        let count = ap (λ (x : Listing). length (points_of x)) held.points ∙ points-count rows at n in
        record {
          answer = sym (check-is s ∙ ap₂ verdict_from count (sym judged));
          judgement = judged;
          held = λ k q. let same : n ≡ k = cc in subst (Held s rows at) same held;
        }
