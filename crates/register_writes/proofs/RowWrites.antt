-- What the instruction of a row writes, and a test of every point with one point more. Assumes nothing.
use mathlib.Core.Path.{◌≡◌, refl, sym, ap, ◌∙◌}
use mathlib.Core.Bool.{Bool, true, false, ◌||◌, ◌&&◌, false≢true}
use mathlib.Core.List.{List}
use Prim.Native.Nat.{ℕ, suc, ◌<◌}
use native.Mathlib.Omega.{arith}
use lib.Dec.{eqb}
use borrow.Author.Tests.{ne_eqb}
use Rattle.model.specs.declared.text.Word.{Word}
use Rattle.model.specs.declared.text.Word.TheVariants.{Stop as STOP, Setc as SETC, Copy as COPY, Addw as ADDW, Subw as SUBW, Mulw as MULW, Divf as DIVF, Load as LOAD, Stor as STOR, Jump as JUMP, Bltu as BLTU, Bequ as BEQU, Leas as LEAS, Most as MOST, Strp as STRP, Divm as DIVM, Turn as TURN}
use Rattle.model.specs.Lists.{some, every, among}
use Rattle.model.specs.Instructions.{writes}
use Rattle.model.specs.Listing.{Point}
use Rattle.rows_and_places.specs.declared.places.Place.{Place}
use Rattle.line_rows.specs.declared.rows.Row.{Row}
use Rattle.decoded.specs.Decoded.{line_of, instruction_in, instruction_from}
use Rattle.model.proofs.Lists.{every-snoc, every-at}
use Rattle.rows_and_places.specs.Points.{point_in, points_in}
use Rattle.rows_and_places.proofs.PlacedPoints.{points_none, points-next, points-count, points-at}

-- a register that is neither in F1 nor in F3 of a row is not written by its instruction
module _ (r : ℕ) (x : Row) (first : x.first ≡ r → ⊥) (third : x.third ≡ r → ⊥) where
  not_first : eqb r x.first ≡ false
  not_first = ne_eqb r x.first (λ e. first (sym e))

  one_kept : (eqb r x.first || false) ≡ false
  one_kept = rw not_first

  both-kept : (eqb r x.first || (eqb r x.third || false)) ≡ false
  both-kept = rw (not_first, ne_eqb r x.third (λ e. third (sym e)))

  kept : (w : Word) → among r (writes (instruction_in x (line_of w x))) ≡ false
  unfolding some
  kept STOP = refl
  kept SETC = one_kept
  kept COPY = one_kept
  kept ADDW = one_kept
  kept SUBW = one_kept
  kept MULW = one_kept
  kept DIVF = one_kept
  kept LOAD = one_kept
  kept STOR = refl
  kept JUMP = refl
  kept BLTU = refl
  kept BEQU = refl
  kept LEAS = refl
  kept MOST = refl
  kept STRP = refl
  kept DIVM = both-kept
  kept TURN = refl

  pub unnamed-kept : among r (writes (instruction_from x)) ≡ false
  unnamed-kept = kept x.word

-- a test of all points, and of one of them
module _ (rows : List Row) (at : List Place) (f : Point → Bool) where
  pub takes_none : true ≡ every f (points_in rows at 0)
  unfolding every
  takes_none = ap (every f) (sym (points_none rows at))

  pub takes-next : (p : ℕ) → true ≡ every f (points_in rows at p) → f (point_in rows at p) ≡ true → true ≡ every f (points_in rows at (suc p))
  takes-next p e h =
      let one : (every f (points_in rows at p) && f (point_in rows at p)) ≡ true = rw (← e, h) refl in
      sym one ∙ every-snoc f (points_in rows at p) (point_in rows at p) ∙ ap (every f) (sym (points-next rows at p))

  pub takes-not : (n p : ℕ) → p < n → f (point_in rows at p) ≡ false → false ≡ every f (points_in rows at n)
  takes-not n p h e = go (every f (points_in rows at n)) refl
    where
      go : (b : Bool) → every f (points_in rows at n) ≡ b → false ≡ b
      go false k = refl
      go true k = absurd (false≢true (sym e ∙ ap f (sym (points-at rows at n p h)) ∙ every-at f (points_in rows at n) _ p k (omega (arith, points-count rows at n))))
