-- The claim lines of a point, their judgement, and the part's offset and length agree: all are of one reading. Assumes nothing.
use mathlib.Core.Path.{◌≡◌, refl}
use mathlib.Core.List.{List, []}
use Prim.Native.Nat.{ℕ}
use lib.ListN.{take, drop}
use Rattle.model.specs.Types.{Refusal, Judgement, accepted, Result, Ok, Err, ClaimPart}
use Rattle.model.specs.Listing.{Point, point_at, listing_of, points_of, claim_lines_judged, claim_bytes, part_or, claim_lines, part_judged, claim_part}

-- the judgement of a part
abbrev pub judgement_in : Result ClaimPart Refusal → Judgement
judgement_in (Ok c) = accepted
judgement_in (Err r) = Err r

-- the bytes of a part
abbrev pub bytes_in : List ℕ → Result ClaimPart Refusal → List ℕ
bytes_in s (Ok c) = take c.length (drop c.offset s)
bytes_in s (Err r) = []

-- the part is there where nothing turns the call back
pub part-judged : (s : List ℕ) (p : ℕ) → judgement_in (claim_part s p) ≡ claim_lines_judged (listing_of s) p
unfolding claim_part
part-judged s p = go (claim_lines_judged (listing_of s) p)
  where
    go : (j : Judgement) → judgement_in (part_judged j (point_at (points_of (listing_of s)) p)) ≡ j
    go (Ok u) = refl
    go (Err r) = refl

-- the bytes of the part are the claim lines
pub part-lines : (s : List ℕ) (p : ℕ) → bytes_in s (claim_part s p) ≡ claim_lines s p
unfolding claim_part claim_lines
part-lines s p = go (claim_lines_judged (listing_of s) p) (point_at (points_of (listing_of s)) p)
  where
    go : (j : Judgement) (q : Point) → bytes_in s (part_judged j q) ≡ part_or j (claim_bytes s q)
    go (Ok u) q = refl
    go (Err r) q = refl

-- where the call is turned back there are none
pub none-refused : (s : List ℕ) (p : ℕ) (r : Refusal) → claim_lines_judged (listing_of s) p ≡ Err r → claim_lines s p ≡ []
unfolding claim_lines
none-refused s p r e = rw e
