-- The tests of 20 and the bound over the points that rows and places hold. Assumes nothing.
use mathlib.Core.Path.{◌≡◌, refl, sym, ap, ◌∙◌}
use mathlib.Core.Bool.{Bool, true, false, not, ◌&&◌, cond, false≢true, and-true, and-false}
use mathlib.Core.List.{List, [], ◌∷◌}
use Prim.Native.Nat.{ℕ, zero, suc, ◌+◌, ◌-◌, ◌*◌, ◌<◌}
use native.Mathlib.Nat.{add-zero}
use native.Mathlib.Omega.{arith}
use Rattle.std.specs.Prelude.{Option, None, Some, Ok, Err}
use Rattle.model.specs.declared.answers.Refusal.{Refusal}
use Rattle.model.specs.Types.{Judgement, accepted}
use Rattle.model.specs.Lists.{every, among}
use Rattle.model.specs.Answers.{◌and_then◌}
use Rattle.model.specs.Instructions.{writes, is_jump}
use Rattle.model.specs.Listing.{Point, point_at}
use Rattle.model.specs.Bound.{turn_of, goes_back, is_target, only_takes, written_before, covered, edge_covered, edges_covered, any_goes_back, rounds_of, bound_of, bound_from}
use Rattle.model.proofs.Tests.{or-false}
use Rattle.line_rows.specs.declared.rows.Row.{Row}
use Rattle.rows_and_places.specs.declared.places.Place.{Place}
use Rattle.rows_and_places.specs.Points.{point_in, points_in}
use Rattle.rows_and_places.proofs.PlacedPoints.{points-count, points-at}
use Rattle.register_writes.specs.Taken.{only_taken}

-- ---- one edge

module _ (ps : List Point) (p : ℕ) where
  target-fails : (a w e : Bool) → false ≡ (a && not true && w && e)
  target-fails true w e = refl
  target-fails false w e = refl

  -- what fails, and what is left where nothing does
  pub not_taken : (t : Option ℕ) → None ≡ only_taken ps t → false ≡ covered ps t p
  unfolding covered
  not_taken None e = refl
  not_taken (Some r) e = go (every (only_takes r) ps) e
    where
      go : (b : Bool) → None ≡ cond b (Some r) None → false ≡ (is_jump (point_at ps p).instruction && not (is_target ps p) && written_before ps r p && b)
      go true e = cc
      go false e = sym (and-false (is_jump (point_at ps p).instruction && not (is_target ps p) && written_before ps r p))

  pub no_jump : (t : Option ℕ) → is_jump (point_at ps p).instruction ≡ false → false ≡ covered ps t p
  unfolding covered
  no_jump None e = refl
  no_jump (Some r) e = rw e

  pub targeted : (t : Option ℕ) → is_target ps p ≡ true → false ≡ covered ps t p
  unfolding covered
  targeted None e = refl
  targeted (Some r) e = rw e (target-fails (is_jump (point_at ps p).instruction) (written_before ps r p) (every (only_takes r) ps))

  pub by-write : (t : Option ℕ) (r : ℕ) → Some r ≡ only_taken ps t → is_jump (point_at ps p).instruction ≡ true → is_target ps p ≡ false → written_before ps r p ≡ covered ps t p
  unfolding covered
  by-write None r e j n = cc
  by-write (Some q) r e j n = go (every (only_takes q) ps) e
    where
      go : (b : Bool) → Some r ≡ cond b (Some q) None → written_before ps r p ≡ (is_jump (point_at ps p).instruction && not (is_target ps p) && written_before ps q p && b)
      go true e = let same : r ≡ q = cc in rw (j, n, same) (sym (and-true _))
      go false e = cc

-- ---- one point more

module _ (rows : List Row) (at : List Place) (n : ℕ) where
  pub before-first : (r : ℕ) → false ≡ written_before (points_in rows at n) r 0
  before-first r = refl

  pub before-next : (r p : ℕ) → (p ≡ 0 → ⊥) → p < n → among r (writes (point_in rows at (p - 1)).instruction) ≡ written_before (points_in rows at n) r p
  before-next r zero h i = absurd (h refl)
  before-next r (suc p) h i =
      let same : suc p - 1 ≡ p = omega arith in
      rw same (ap (λ (q : Point). among r (writes q.instruction)) (sym (points-at rows at n p (omega arith))))

  abbrev edges : ℕ → Judgement
  edges p = edges_covered (points_in rows at n) p

  pub edges_none : accepted ≡ edges 0
  unfolding edges_covered
  edges_none = refl

  edges-next : (p : ℕ) → edges (suc p) ≡ (edges p and_then edge_covered (points_in rows at n) p (point_at (points_in rows at n) p))
  unfolding edges_covered
  edges-next p = refl

  -- one point more that is accepted
  pub edges-accepted : (p : ℕ) → p < n → accepted ≡ edges p → accepted ≡ edge_covered (points_in rows at n) p (point_in rows at p) → accepted ≡ edges (suc p)
  edges-accepted p h e f = sym (rw (edges-next p, points-at rows at n p h, ← e, ← f))

  -- one that is turned back
  edges_stay : (p : ℕ) (r : Refusal) → edges p ≡ Err r → (d : ℕ) → edges (p + d) ≡ Err r
  edges_stay p r e zero = rw (add-zero p) e
  edges_stay p r e (suc d) =
      let more : p + suc d ≡ suc (p + d) = omega arith in
      rw (more, edges-next (p + d), edges_stay p r e d)

  pub edges-refused : (p : ℕ) (r : Refusal) → p < n → accepted ≡ edges p → Err r ≡ edge_covered (points_in rows at n) p (point_in rows at p) → Err r ≡ edges n
  edges-refused p r h e f =
      let whole : suc p + (n - suc p) ≡ n = omega arith in
      let own : edges (suc p) ≡ Err r = rw (edges-next p, points-at rows at n p h, ← e, ← f) in
      sym (ap edges (sym whole) ∙ edges_stay (suc p) r own (n - suc p))

-- ---- the bound

-- where no point goes back, every backward edge is covered
none-uncovered : (ps : List Point) (n : ℕ) → any_goes_back ps n ≡ false → edges_covered ps n ≡ accepted
unfolding any_goes_back edges_covered
none-uncovered ps zero e = refl
none-uncovered ps (suc n) e =
    let (before, here) = or-false (any_goes_back ps n) (goes_back n (point_at ps n).instruction) e in
    rw (none-uncovered ps n before, here)

module _ (rows : List Row) (at : List Place) (n : ℕ) where
  -- the points from which something goes back are not none
  pub some-point : any_goes_back (points_in rows at n) n ≡ true → 0 < n
  unfolding any_goes_back
  some-point e = go n e
    where
      go : (m : ℕ) → any_goes_back (points_in rows at n) m ≡ true → 0 < m
      go zero e = absurd (false≢true e)
      go (suc m) e = omega arith

  -- the first point alone tells the TURN register, and its rounds
  pub turn_alone : 0 < n → turn_of (point_in rows at 0 ∷ []) ≡ turn_of (points_in rows at n)
  turn_alone h = ap (λ (q : Point). turn_of (q ∷ [])) (sym (points-at rows at n 0 h))

  rounds-alone : 0 < n → (t : Option ℕ) → rounds_of (point_in rows at 0 ∷ []) t ≡ rounds_of (points_in rows at n) t
  rounds-alone h t = ap (λ (q : Point). rounds_of (q ∷ []) t) (sym (points-at rows at n 0 h)) ∙ same t
    where
      same : (t : Option ℕ) → rounds_of (point_at (points_in rows at n) 0 ∷ []) t ≡ rounds_of (points_in rows at n) t
      same None = refl
      same (Some r) = refl

  pub bound-straight : any_goes_back (points_in rows at n) n ≡ false → Ok n ≡ bound_from (points_in rows at n) (edges_covered (points_in rows at n) n)
  unfolding bound_of
  bound-straight e = rw (none-uncovered (points_in rows at n) n e, points-count rows at n, e)

  pub bound-rounds : any_goes_back (points_in rows at n) n ≡ true → (t : Option ℕ) → t ≡ turn_of (points_in rows at n) → (x : ℕ) → x ≡ rounds_of (point_in rows at 0 ∷ []) t → (j : Judgement) → j ≡ edges_covered (points_in rows at n) n → j ≡ accepted
      → Ok (n * x) ≡ bound_from (points_in rows at n) (edges_covered (points_in rows at n) n)
  unfolding bound_of
  bound-rounds e t told x rounds j judged ok =
      let same : x ≡ rounds_of (points_in rows at n) (turn_of (points_in rows at n)) = rounds ∙ rounds-alone (some-point e) t ∙ ap (rounds_of (points_in rows at n)) told in
      rw (← judged, ok, points-count rows at n, e, ← same)
