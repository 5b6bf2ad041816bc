-- Claims gathered one row at a time. Assumes nothing.
use mathlib.Core.Path.{◌≡◌, refl, ap, ◌∙◌}
use mathlib.Core.List.{List, [], ◌∷◌, ◌++◌}
use Prim.Native.Nat.{ℕ, zero, suc, ◌+◌, ◌≤◌, ◌<◌}
use native.Mathlib.Omega.{arith}
use native.Mathlib.Decide.{ℕ_discrete}
use Rattle.std.proofs.Common.{sym, length, length-append, add-zero, zero-add}
use Rattle.model.specs.declared.claims.Claim.{Claim}
use Rattle.model.specs.declared.claims.Claim.TheVariants.{Leas, Most, Strp, Turn}
use Rattle.model.specs.Facts.{Facts, unclaimed, with_claim, with_claims, facts_of}
use Rattle.model.specs.Listing.{stripes_among}
use Rattle.line_rows.specs.declared.rows.Row.{Row}
use Rattle.line_rows.specs.Rows.{row_at}
use Rattle.decoded.specs.Decoded.{claim_from, claims_from}
use Rattle.decoded.proofs.Claims.{claims-none, claims-next}
use Rattle.scan.proofs.LineOrder.{stripes-cons}

stripes-append : (xs ys : List Claim) → stripes_among (xs ++ ys) ≡ stripes_among xs + stripes_among ys
stripes-append [] ys = omega arith
stripes-append (c ∷ xs) ys = omega (arith, stripes-cons c (xs ++ ys), stripes-cons c xs, stripes-append xs ys)

with_append : (f : Facts) (xs ys : List Claim) → with_claims f (xs ++ ys) ≡ with_claims (with_claims f xs) ys
with_append f [] ys = refl
with_append f (c ∷ xs) ys = with_append (with_claim f c) xs ys

facts-none : facts_of [] ≡ unclaimed
unfolding facts_of
facts-none = refl

stripes-added : (f : Facts) (c : Claim) → length (with_claim f c).stripes ≡ length f.stripes + stripes_among (c ∷ [])
stripes-added f (Leas v n) = sym (add-zero (length f.stripes))
stripes-added f (Most v n) = sym (add-zero (length f.stripes))
stripes-added f (Strp s) = length-append f.stripes (s ∷ [])
stripes-added f (Turn r) = sym (add-zero (length f.stripes))

stripes-gathered : (f : Facts) (cs : List Claim) → length (with_claims f cs).stripes ≡ length f.stripes + stripes_among cs
stripes-gathered f [] = sym (add-zero (length f.stripes))
stripes-gathered f (c ∷ cs) = omega (arith, stripes-gathered (with_claim f c) cs, stripes-added f c, stripes-cons c cs, stripes-cons c [])

-- as many stripes as are claimed
pub stripes-claimed : (cs : List Claim) → length (facts_of cs).stripes ≡ stripes_among cs
unfolding facts_of
stripes-claimed cs = stripes-gathered unclaimed cs ∙ zero-add (stripes_among cs)

module _ (rows : List Row) (from : ℕ) where
  -- what no claim states
  pub facts-start : unclaimed ≡ facts_of (claims_from rows from 0)
  facts-start = rw (claims-none rows from, facts-none) refl

  -- the claim of one row more
  pub facts-next : (n : ℕ) → facts_of (claims_from rows from (suc n)) ≡ with_claim (facts_of (claims_from rows from n)) (claim_from (row_at rows (from + n)))
  unfolding facts_of
  facts-next n = ap (with_claims unclaimed) (claims-next rows from n) ∙ with_append unclaimed (claims_from rows from n) _

  pub stripes-next : (n : ℕ) → stripes_among (claims_from rows from (suc n)) ≡ stripes_among (claims_from rows from n) + stripes_among (claim_from (row_at rows (from + n)) ∷ [])
  stripes-next n = ap stripes_among (claims-next rows from n) ∙ stripes-append (claims_from rows from n) _

  -- more rows hold no fewer stripes
  stripes-grow : (i n : ℕ) → i ≤ n → stripes_among (claims_from rows from i) ≤ stripes_among (claims_from rows from n)
  stripes-grow i zero h = let z : i ≡ 0 = omega arith in rw z (omega arith)
  stripes-grow i (suc n) h = go (ℕ_discrete i (suc n)) (stripes-grow i n)
    where
      go : Dec (i ≡ suc n) → (i ≤ n → stripes_among (claims_from rows from i) ≤ stripes_among (claims_from rows from n)) → stripes_among (claims_from rows from i) ≤ stripes_among (claims_from rows from (suc n))
      go (yes e) f = rw e (omega arith)
      go (no e) f = omega (arith, f (omega arith), stripes-next n)

  -- among n rows that hold few stripes, the next one has room
  pub gather-room : (i n m : ℕ) → i < n → stripes_among (claims_from rows from n) ≤ m → stripes_among (claims_from rows from i) + stripes_among (claim_from (row_at rows (from + i)) ∷ []) ≤ m
  gather-room i n m h few = omega (arith, stripes-grow (suc i) n h, stripes-next i)
