-- 15 to 17 for a state. Assumes nothing.
use Prim.Native.Nat.{ℕ, ◌≤◌, ◌<◌}
use mathlib.Core.Bool.{Bool, true, false, cond}
use mathlib.Core.List.{List, [], ◌∷◌}
use mathlib.Core.Path.{◌≡◌, refl, sym}
use native.Mathlib.Omega.{arith}
use lib.ListN.{length, get_or}
use borrow.Author.Tests.{leb-true, lt-ltb, le-ltb}
use Rattle.model.specs.Limits as Limits
use Rattle.model.specs.declared.machine.State.{State}
use Rattle.model.specs.Types.{accepted}
use Rattle.std.specs.Prelude.{Err}
use Rattle.model.specs.declared.answers.Refusal.TheVariants.{TableLength, NoSuchPoint, ClaimsNotMet}
use Rattle.model.specs.Answers.{◌and_then◌}
use Rattle.model.specs.Limits.{greatest_size}
use Rattle.model.specs.Lists.{every}
use Rattle.model.specs.Facts.{facts_of, meets}
use Rattle.model.specs.Listing.{Point, point_exists}
use Rattle.model.specs.Machine.{values_from}
use Rattle.model.specs.Run.{meets_claims, size_fits, tables_fit, claims_met, state_judged}
use Rattle.model.proofs.Lists.{every-at}
use Rattle.model.proofs.Reading.{both-accepted, test-passed}
use Rattle.line_rows.specs.declared.rows.Row.{Row}
use Rattle.rows_and_places.specs.declared.places.Place.{Place}
use Rattle.rows_and_places.specs.Points.{point_in, points_in}
use Rattle.rows_and_places.proofs.PlacedPoints.{points-count, points-at}

-- a size that is not too long
pub size_small : (sizes : List ℕ) (i : ℕ) → every size_fits sizes ≡ true → i < length sizes → get_or sizes i 0 ≤ greatest_size
size_small sizes i e h = leb-true _ _ (every-at size_fits sizes 0 i e h)

-- a list of as many sizes as there are tables, by its elements
pub two-sizes : (l : List ℕ) → length l ≡ Limits.tables → (get_or l 0 0 ∷ get_or l 1 0 ∷ []) ≡ l
two-sizes [] e = absurd (omega arith)
two-sizes (x ∷ []) e = absurd (omega arith)
two-sizes (x ∷ (y ∷ [])) e = refl
two-sizes (x ∷ (y ∷ (z ∷ l))) e = absurd (omega arith)

-- over n points that are held
module _ (rows : List Row) (at : List Place) (n : ℕ) (s : State) (sizes : List ℕ) where
  pub tables-long : every size_fits sizes ≡ false → Err TableLength ≡ state_judged (points_in rows at n) s sizes
  tables-long e = sym (rw e)

  module _ (short : every size_fits sizes ≡ true) where
    pub point-past : n ≤ s.point → Err NoSuchPoint ≡ state_judged (points_in rows at n) s sizes
    point-past h = sym (rw (short, points-count rows at n, le-ltb s.point n h))

    pub claims-tested : s.point < n → (vs : List ℕ) → vs ≡ values_from s.registers sizes → (b : Bool) → b ≡ meets vs (facts_of (point_in rows at s.point).claims) → cond b accepted (Err ClaimsNotMet) ≡ state_judged (points_in rows at n) s sizes
    unfolding meets_claims
    claims-tested h vs v b e = sym (rw (short, points-count rows at n, lt-ltb s.point n h, points-at rows at n s.point h, ← v, ← e))

-- what is known of a state that nothing turns back
pub record Met (ps : List Point) (s : State) (sizes : List ℕ) : Type 0 where
  pub fit : every size_fits sizes ≡ true
  pub claims : meets_claims ps s sizes ≡ true

pub met : (ps : List Point) (s : State) (sizes : List ℕ) → state_judged ps s sizes ≡ accepted → Met ps s sizes
met ps s sizes e =
    let (first, claims) = both-accepted (tables_fit sizes and_then point_exists ps s.point) (claims_met ps s sizes) e in
    record {
      fit = test-passed (every size_fits sizes) TableLength (both-accepted (tables_fit sizes) (point_exists ps s.point) first).0;
      claims = test-passed (meets_claims ps s sizes) ClaimsNotMet claims;
    }
