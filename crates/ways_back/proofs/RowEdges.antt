-- Whether one of some points goes back. Assumes nothing.
use mathlib.Core.Path.{◌≡◌, refl, sym, ap, ◌∙◌}
use mathlib.Core.Bool.{Bool, true, false, ◌||◌}
use mathlib.Core.List.{List}
use Prim.Native.Nat.{ℕ, zero, suc, ◌+◌, ◌-◌, ◌<◌}
use native.Mathlib.Nat.{add-zero}
use native.Mathlib.Omega.{arith}
use Rattle.std.proofs.Math.Bool.{or-true}
use Rattle.model.specs.Listing.{point_at}
use Rattle.model.specs.Bound.{goes_back, any_goes_back}
use Rattle.line_rows.specs.declared.rows.Row.{Row}
use Rattle.rows_and_places.specs.declared.places.Place.{Place}
use Rattle.rows_and_places.specs.Points.{point_in, points_in}
use Rattle.rows_and_places.proofs.PlacedPoints.{points-at}

module _ (rows : List Row) (at : List Place) (n : ℕ) where
  abbrev any : ℕ → Bool
  any p = any_goes_back (points_in rows at n) p

  -- before the first point
  pub any_none : false ≡ any 0
  unfolding any_goes_back
  any_none = refl

  any_next : (p : ℕ) → any (suc p) ≡ (any p || goes_back p (point_at (points_in rows at n) p).instruction)
  unfolding any_goes_back
  any_next p = refl

  -- one point more that does not
  pub none-next : (p : ℕ) → p < n → false ≡ any p → false ≡ goes_back p (point_in rows at p).instruction → false ≡ any (suc p)
  none-next p h e f = sym (rw (any_next p, points-at rows at n p h, ← e, ← f))

  -- one that does
  any_stays : (p : ℕ) → any p ≡ true → (d : ℕ) → any (p + d) ≡ true
  any_stays p e zero = rw (add-zero p) e
  any_stays p e (suc d) =
      let more : p + suc d ≡ suc (p + d) = omega arith in
      rw (more, any_next (p + d), any_stays p e d)

  pub any_found : (p : ℕ) → p < n → true ≡ goes_back p (point_in rows at p).instruction → true ≡ any n
  any_found p h e =
      let whole : suc p + (n - suc p) ≡ n = omega arith in
      let own : any (suc p) ≡ true = rw (any_next p, points-at rows at n p h, ← e) (or-true (any p)) in
      sym (ap any (sym whole) ∙ any_stays (suc p) own (n - suc p))
