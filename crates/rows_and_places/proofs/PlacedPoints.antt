-- The points that rows and places hold. Assumes nothing.
use mathlib.Core.Path.{◌≡◌, refl, sym, ap, ◌∙◌}
use mathlib.Core.List.{List, [], ◌∷◌, ◌++◌}
use Prim.Native.Nat.{ℕ, zero, suc, ◌+◌, ◌-◌, ◌<◌}
use native.Mathlib.Nat.{not-suc-le-zero}
use native.Mathlib.Omega.{arith}
use native.Mathlib.Numerals.{add-one}
use native.Mathlib.Decide.{ℕ_discrete}
use lib.ListN.{length, length-append, get_or-append}
use lib.Seq.{get_or_at, ext_get_or}
use Rattle.model.specs.Listing.{Point, first_line, point_at}
use Rattle.line_rows.specs.declared.rows.Row.{Row}
use Rattle.decoded.proofs.Claims.{claims-count}
use Rattle.rows_and_places.specs.declared.places.Place.{Place}
use Rattle.rows_and_places.specs.Points.{line_in, number_in, first_in, point_in, points_in}

module _ (rows : List Row) (at : List Place) where
  pub points_none : points_in rows at 0 ≡ []
  unfolding points_in
  points_none = refl

  pub points-next : (n : ℕ) → points_in rows at (suc n) ≡ points_in rows at n ++ (point_in rows at n ∷ [])
  unfolding points_in
  points-next n = refl

  pub points-count : (n : ℕ) → length (points_in rows at n) ≡ n
  unfolding points_in
  points-count zero = refl
  points-count (suc n) = length-append (points_in rows at n) _ ∙ ap (λ (m : ℕ). m + 1) (points-count n) ∙ add-one n

  pub points-at : (n p : ℕ) → p < n → point_at (points_in rows at n) p ≡ point_in rows at p
  points-at zero p h = absurd (not-suc-le-zero h)
  points-at (suc n) p h = ap (λ (l : List Point). point_at l p) (points-next n) ∙ go (ℕ_discrete p n) (points-at n p)
    where
      go : Dec (p ≡ n) → (p < n → point_at (points_in rows at n) p ≡ point_in rows at p) → point_at (points_in rows at n ++ (point_in rows at n ∷ [])) p ≡ point_in rows at p
      go (yes e) f = get_or_at (points_in rows at n) (point_in rows at n) [] _ p (points-count n ∙ sym e) ∙ ap (point_in rows at) (sym e)
      go (no e) f =
          let i : p < n = omega arith in
          get_or-append (points_in rows at n) (point_in rows at n ∷ []) _ p (omega (arith, points-count n)) ∙ f i

  -- points that are held one by one are held all together
  pub points-are : (ps : List Point) → ((p : ℕ) → p < length ps → point_in rows at p ≡ point_at ps p) → points_in rows at (length ps) ≡ ps
  points-are ps h =
      ext_get_or _ (points_in rows at (length ps)) ps (points-count (length ps))
      (λ p b. let i : p < length ps = omega (arith, points-count (length ps)) in points-at (length ps) p i ∙ h p i)

  -- the line of the first claim
  pub first-line : (p : ℕ) → first_line (point_in rows at p) ≡ line_in at p - number_in at p
  first-line p = ap (λ (n : ℕ). line_in at p - n) (claims-count rows (first_in at p) (number_in at p))
