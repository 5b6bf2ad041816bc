-- The first claim that does not follow, found row by row. Assumes nothing.
use mathlib.Core.Path.{◌≡◌, refl, sym, ap, ◌∙◌}
use mathlib.Core.Bool.{Bool, true, false, cond}
use mathlib.Core.List.{List, [], ◌∷◌, ◌++◌}
use Prim.Native.Nat.{ℕ, zero, suc, ◌+◌, ◌-◌, ◌≤◌, ◌<◌}
use native.Mathlib.Nat.{add-zero}
use native.Mathlib.Omega.{arith}
use lib.ListN.{length}
use lib.Dec.{eqb}
use borrow.Author.Tests.{ne_eqb}
use Rattle.model.specs.declared.claims.Claim.{Claim}
use Rattle.model.specs.declared.answers.Refusal.TheVariants.{ClaimMayFail}
use Rattle.model.specs.Types.{accepted}
use Rattle.std.specs.Prelude.{Err}
use Rattle.model.specs.Facts.{Facts}
use Rattle.model.specs.Transfer.{possible}
use Rattle.model.specs.Follows.{claim_follows, first_lost, lost_along}
use Rattle.model.specs.Listing.{first_line}
use Rattle.model.specs.Check.{claims_judged}
use Rattle.line_rows.specs.declared.rows.Row.{Row}
use Rattle.rows_and_places.specs.declared.places.Place.{Place}
use Rattle.line_rows.specs.Rows.{row_at}
use Rattle.decoded.specs.Decoded.{claim_from, claims_from}
use Rattle.decoded.proofs.Claims.{claims-none, claims-next, claims-count}
use Rattle.rows_and_places.specs.Points.{line_in, number_in, first_in, point_in}
use Rattle.rows_and_places.proofs.PlacedPoints.{first-line}
use Rattle.lost_claims.specs.Lost.{lost_judged}

-- one claim more at the end
first-snoc : (f : Facts) (m : ℕ) (cs : List Claim) (c : Claim) → 1 ≤ m → first_lost f m (cs ++ (c ∷ [])) ≡ cond (eqb (first_lost f m cs) 0) (cond (claim_follows f c) 0 (m + length cs)) (first_lost f m cs)
unfolding first_lost
first-snoc f m [] c h = rw add-zero
first-snoc f m (b ∷ cs) c h = go (claim_follows f b) (first-snoc f (m + 1) cs c (omega arith))
  where
    shift : m + 1 + length cs ≡ m + suc (length cs)
    shift = omega arith

    go : (t : Bool) → first_lost f (m + 1) (cs ++ (c ∷ [])) ≡ cond (eqb (first_lost f (m + 1) cs) 0) (cond (claim_follows f c) 0 (m + 1 + length cs)) (first_lost f (m + 1) cs)
        → cond t (first_lost f (m + 1) (cs ++ (c ∷ []))) m ≡ cond (eqb (cond t (first_lost f (m + 1) cs) m) 0) (cond (claim_follows f c) 0 (m + suc (length cs))) (cond t (first_lost f (m + 1) cs) m)
    go true e = rw shift at e
    go false e = rw (ne_eqb m 0 (λ z. omega arith))

module _ (rows : List Row) (f : Facts) (from : ℕ) where
  -- what is lost among n rows
  abbrev lost : ℕ → ℕ
  lost n = first_lost f (from + 1) (claims_from rows from n)

  pub lost-none : lost 0 ≡ 0
  unfolding first_lost
  lost-none = ap (first_lost f (from + 1)) (claims-none rows from)

  lost-next : (n : ℕ) → lost (suc n) ≡ cond (eqb (lost n) 0) (cond (claim_follows f (claim_from (row_at rows (from + n)))) 0 (from + n + 1)) (lost n)
  lost-next n =
      let place : from + 1 + length (claims_from rows from n) ≡ from + n + 1 = omega (arith, claims-count rows from n) in
      ap (first_lost f (from + 1)) (claims-next rows from n) ∙ first-snoc f (from + 1) (claims_from rows from n) (claim_from (row_at rows (from + n))) (omega arith) ∙ rw place

  module _ (n : ℕ) (c : Claim) (is : c ≡ claim_from (row_at rows (from + n))) (none : lost n ≡ 0) where
    -- after rows of which none is lost, the next one tells
    pub lost-kept : claim_follows f c ≡ true → lost (suc n) ≡ 0
    lost-kept e = lost-next n ∙ rw (none, ← is, e)

    lost-here : claim_follows f c ≡ false → lost (suc n) ≡ from + n + 1
    lost-here e = lost-next n ∙ rw (none, ← is, e)

    -- what is lost stays lost
    lost-stays : claim_follows f c ≡ false → (k : ℕ) → lost (suc n + k) ≡ from + n + 1
    lost-stays e zero = ap lost (add-zero (suc n)) ∙ lost-here e
    lost-stays e (suc k) = go (lost-stays e k)
      where
        more : suc n + suc k ≡ suc (suc n + k)
        more = omega arith

        go : lost (suc n + k) ≡ from + n + 1 → lost (suc n + suc k) ≡ from + n + 1
        go h = ap lost more ∙ lost-next (suc n + k) ∙ rw (h, ne_eqb (from + n + 1) 0 (λ z. omega arith))

    lost-first : (m : ℕ) → n < m → claim_follows f c ≡ false → lost m ≡ from + n + 1
    lost-first m h e =
        let whole : suc n + (m - suc n) ≡ m = omega arith in
        sym (ap lost whole) ∙ lost-stays e (m - suc n)

    -- it is the first that is lost among m rows
    pub first-judged : (l m : ℕ) → n < m → claim_follows f c ≡ false → Err (ClaimMayFail l (from + n + 1)) ≡ lost_judged l (lost m)
    first-judged l m h e = rw (lost-first m h e, ne_eqb (from + n + 1) 0 (λ z. omega arith)) refl

-- a point without claims is owed nothing
pub edge_none : (l : ℕ) (rows : List Row) (at : List Place) (t : ℕ) (h : Facts) → number_in at t ≡ 0 → accepted ≡ claims_judged l h (point_in rows at t)
unfolding lost_along first_lost
edge_none l rows at t h e =
    let none : (point_in rows at t).claims ≡ [] = ap (claims_from rows (first_in at t)) e ∙ claims-none rows (first_in at t) in
    rw (none, nothing-lost (possible h))
  where
    nothing-lost : (b : Bool) → ◌≡◌ {A = ℕ} (cond b 0 0) 0
    nothing-lost true = refl
    nothing-lost false = refl

-- the answers for an edge to point t along which f is known
module _ (l : ℕ) (rows : List Row) (at : List Place) (t : ℕ) (f : Facts) where
  pub edge-possible : number_in at t < line_in at t → possible f ≡ true → lost_judged l (first_lost f (first_in at t + 1) (claims_from rows (first_in at t) (number_in at t))) ≡ claims_judged l f (point_in rows at t)
  unfolding lost_along
  edge-possible b p =
      let line : first_line (point_in rows at t) ≡ first_in at t + 1 = first-line rows at t ∙ omega arith in
      rw (line, p) refl

  pub edge-impossible : possible f ≡ false → accepted ≡ claims_judged l f (point_in rows at t)
  unfolding lost_along
  edge-impossible p = rw p refl
