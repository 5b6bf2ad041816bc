-- The instructions of the points, gathered one after the other. Assumes nothing.
use Prim.Native.Nat.{ℕ, ◌+◌, ◌≤◌, ◌<◌}
use mathlib.Core.List.{List}
use mathlib.Core.Path.{◌≡◌, sym, ap, ◌∙◌}
use native.Mathlib.Decide.{ℕ_discrete}
use native.Mathlib.Nat.{not-suc-le-zero}
use native.Mathlib.Omega.{arith}
use lib.ListN.{length, get_or, set, length-set}
use Rattle.model.specs.declared.machine.Instruction.{Instruction}
use Rattle.model.specs.declared.machine.Instruction.TheVariants.{Stop}
use lib.Seq.{get_or-set_same, get_or-set_other}
use Rattle.model.specs.Limits.{greatest_points}
use Rattle.model.specs.Listing.{Point, point_at}
use Rattle.rows_and_places.specs.declared.places.Place.{Place}
use Rattle.line_rows.specs.declared.rows.Row.{Row}
use Rattle.rows_and_places.specs.Points.{point_in, points_in}
use Rattle.rows_and_places.proofs.PlacedPoints.{points-count, points-at}
use Rattle.run_loop.specs.Runs.{Coded}

module _ (rows : List Row) (at : List Place) where
  -- point p of the first n
  instruction-in : (n p : ℕ) → p < n → (point_at (points_in rows at n) p).instruction ≡ (point_in rows at p).instruction
  instruction-in n p h = ap (λ (q : Point). q.instruction) (points-at rows at n p h)

  -- before the first
  pub none-gathered : (code : List Instruction) → Coded (points_in rows at 0) code
  none-gathered code = record {
    few = rw (points-count rows at 0) (omega arith);
    long = rw (points-count rows at 0) (omega arith);
    each = λ p h. absurd (not-suc-le-zero (rw (points-count rows at 0) at h));
  }

  -- one point more
  pub one-gathered : (n : ℕ) (code : List Instruction) (i : Instruction) → n < greatest_points → n < length code → i ≡ (point_in rows at n).instruction → Coded (points_in rows at n) code → Coded (points_in rows at (n + 1)) (set code n i)
  one-gathered n code i few room is h = record {
    few = rw (points-count rows at (n + 1)) (omega arith);
    long = rw (points-count rows at (n + 1), length-set code n i) (omega arith);
    each = λ p below. let inside : p < n + 1 = rw (points-count rows at (n + 1)) at below in go p inside (ℕ_discrete p n) ∙ sym (instruction-in (n + 1) p inside);
  }
    where
      go : (p : ℕ) → p < n + 1 → Dec (p ≡ n) → get_or (set code n i) p Stop ≡ (point_in rows at p).instruction
      go p below (yes e) = rw e (get_or-set_same code n i Stop room ∙ is)
      go p below (no e) =
          let before : p < n = omega arith in
          get_or-set_other code n p i Stop e ∙ h.each p (omega (arith, points-count rows at n)) ∙ instruction-in n p before
