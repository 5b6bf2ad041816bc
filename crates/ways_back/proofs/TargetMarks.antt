-- The marks of targets, one point after the other. Assumes nothing.
use mathlib.Core.Path.{◌≡◌, refl, sym, ap, ◌∙◌}
use mathlib.Core.Bool.{Bool, true, false, ◌||◌}
use mathlib.Core.List.{List, [], ◌∷◌, ◌++◌}
use Prim.Native.Nat.{ℕ, suc, ◌<◌}
use native.Mathlib.Omega.{arith}
use native.Mathlib.Decide.{ℕ_discrete}
use lib.ListN.{length, get_or, set, length-set, replicate, get_or-replicate, length-replicate}
use lib.Seq.{get_or-set_same, get_or-set_other}
use lib.Dec.{eqb}
use borrow.Author.Tests.{eq-eqb, ne_eqb}
use Rattle.std.proofs.Math.Bool.{or_assoc, or-true, or-false}
use Rattle.model.specs.Limits.{greatest_points}
use Rattle.model.specs.Lists.{some, among}
use Rattle.model.specs.Instructions.{targets}
use Rattle.model.specs.Listing.{Point}
use Rattle.model.specs.Bound.{is_target}
use Rattle.line_rows.specs.declared.rows.Row.{Row}
use Rattle.rows_and_places.specs.declared.places.Place.{Place}
use Rattle.rows_and_places.specs.Points.{point_in, points_in}
use Rattle.rows_and_places.proofs.PlacedPoints.{points_none, points-next}
use Rattle.ways_back.specs.Covering.{with_targets, NoneMarked, Marked}

module _ {A : Type 0} (f : A → Bool) where
  -- a test of some element, with one more behind them
  some-snoc : (xs : List A) (x : A) → some f (xs ++ (x ∷ [])) ≡ (some f xs || f x)
  unfolding some
  some-snoc [] x = or-false (f x)
  some-snoc (y ∷ xs) x = ap (λ (b : Bool). f y || b) (some-snoc xs x) ∙ sym (or_assoc (f y) (some f xs) (f x))

-- the mark of a point after one target is marked
mark-one : (marks : List Bool) (t p : ℕ) → p < length marks → get_or (set marks t true) p false ≡ (get_or marks p false || eqb p t)
mark-one marks t p h = go (ℕ_discrete p t)
  where
    go : Dec (p ≡ t) → get_or (set marks t true) p false ≡ (get_or marks p false || eqb p t)
    go (yes e) = rw (e, get_or-set_same marks t true false (rw e at h), eq-eqb t t refl) (sym (or-true (get_or marks t false)))
    go (no e) = rw (get_or-set_other marks t p true false e, ne_eqb p t e) (sym (or-false (get_or marks p false)))

targets-long : (ts : List ℕ) (marks : List Bool) → length (with_targets marks ts) ≡ length marks
targets-long [] marks = refl
targets-long (t ∷ ts) marks = targets-long ts (set marks t true) ∙ length-set marks t true

-- and after some
mark-some : (ts : List ℕ) (marks : List Bool) (p : ℕ) → p < length marks → get_or (with_targets marks ts) p false ≡ (get_or marks p false || among p ts)
unfolding some
mark-some [] marks p h = sym (or-false (get_or marks p false))
mark-some (t ∷ ts) marks p h =
    mark-some ts (set marks t true) p (omega (arith, length-set marks t true))
    ∙ ap (λ (b : Bool). b || among p ts) (mark-one marks t p h)
    ∙ or_assoc (get_or marks p false) (eqb p t) (among p ts)

-- as many times false mark nothing
pub none-marked : NoneMarked (replicate greatest_points false)
none-marked = record { long = length-replicate {A = Bool} greatest_points false; none = λ p h. get_or-replicate {A = Bool} greatest_points p false false h }

module _ (rows : List Row) (at : List Place) where
  -- before the first point
  pub marked-none : (marks : List Bool) → NoneMarked marks → Marked marks (points_in rows at 0)
  unfolding some
  marked-none marks h = record { long = h.long; each = λ p i. h.none p i ∙ ap (λ (ps : List Point). is_target ps p) (sym (points_none rows at)) }

  -- one point more
  pub marked_next : (marks : List Bool) (p : ℕ) → Marked marks (points_in rows at p) → Marked (with_targets marks (targets (point_in rows at p).instruction)) (points_in rows at (suc p))
  marked_next marks p h = record { long = targets-long ts marks ∙ h.long; each = λ q i. each q i }
    where
      ts : List ℕ
      ts = targets (point_in rows at p).instruction

      each : (q : ℕ) → q < greatest_points → get_or (with_targets marks ts) q false ≡ is_target (points_in rows at (suc p)) q
      each q i =
          mark-some ts marks q (omega (arith, h.long))
          ∙ ap (λ (b : Bool). b || among q ts) (h.each q i)
          ∙ sym (some-snoc (λ (x : Point). among q (targets x.instruction)) (points_in rows at p) (point_in rows at p))
          ∙ ap (λ (ps : List Point). is_target ps q) (sym (points-next rows at p))
