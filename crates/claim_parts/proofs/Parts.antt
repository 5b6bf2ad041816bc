-- The claim lines of a point, from a listing that is read or turned back. Assumes nothing.
use mathlib.Core.Path.{◌≡◌, refl, sym, ap, ◌∙◌}
use mathlib.Core.List.{List, [], ◌∷◌, ◌++◌}
use Prim.Native.Nat.{ℕ, zero, suc, ◌+◌, ◌*◌, ◌/◌, ◌≤◌, ◌<◌}
use native.Mathlib.Omega.{arith}
use native.Mathlib.Decide.{dec_le}
use lib.ListN.{length, take, drop}
use borrow.Author.Tests.{lt-ltb, le-ltb}
use Rattle.model.specs.declared.claims.Line.{Line}
use Rattle.model.specs.declared.claims.Line.TheVariants.{Refused as refused_line, Claim as claim_line, Instruction as instruction_line}
use Rattle.model.specs.declared.answers.Refusal.{Refusal}
use Rattle.model.specs.declared.answers.Refusal.TheVariants.{ListingLength, NoSuchPoint, ClaimOrder}
use Rattle.model.specs.Types.{Judgement, accepted}
use Rattle.std.specs.Prelude.{Result, Ok, Err}
use Rattle.model.specs.declared.answers.ClaimPart.{ClaimPart}
use Rattle.model.specs.Limits.{line_bytes, today}
use Rattle.model.specs.Listing.{Listing, Point, point_at, in_order, Reading, going, refused_reading, after_line, read_to, whole_judged, read_as, refused_listing, listing_or, listing_from, good_length, listing_of, points_of, claim_lines_judged, claim_lines, part_judged, claim_part, listing_within}
use Rattle.model.proofs.Tests.{cond_cases}
use Rattle.model.proofs.Lists.{All, all_snoc, all-at}
use Rattle.model.proofs.Reading.{PointLimited, well-formed}
use Rattle.model.proofs.ClaimPart.{part-judged, part-lines}
use Rattle.line_rows.specs.declared.rows.Row.{Row}
use Rattle.rows_and_places.specs.declared.places.Place.{Place}
use Rattle.decoded.proofs.Claims.{claims-count}
use Rattle.rows_and_places.specs.Points.{number_in, first_in, point_in, Placed}
use Rattle.reader.specs.Listing.{Stands}
use Rattle.rows_and_places.proofs.RowsAndPlaces.{line_read}
use Rattle.rows_and_places.proofs.PlacedPoints.{points-count, points-at}

-- the point's line is one of the first n
abbrev Inside : ℕ → Point → Type 0
Inside n q = q.line ≤ n

later : (n : ℕ) (ps : List Point) → All (Inside n) ps → All (Inside (suc n)) ps
later n [] h = tt
later n (q ∷ ps) h = let l = h.0 in (omega arith, later n ps h.1)

abbrev ReadInside : ℕ → Reading → Type 0
ReadInside n (going ps cs) = All (Inside n) ps
ReadInside n (refused_reading r) = Unit {0}

inside-more : (n : ℕ) (x : Reading) (l : Line) → ReadInside n x → ReadInside (suc n) (after_line x n l)
inside-more n (refused_reading r) l h = tt
inside-more n (going ps cs) (refused_line r) h = tt
inside-more n (going ps cs) (claim_line c) h = cond_cases (ReadInside (suc n)) (in_order n cs c) (going ps (cs ++ (c ∷ []))) (refused_reading (ClaimOrder (n + 1))) (λ e. later n ps h) (λ e. tt)
inside-more n (going ps cs) (instruction_line i) h = all_snoc (Inside (suc n)) ps _ (later n ps h) (omega arith)

read-inside : (s : List ℕ) (n : ℕ) → ReadInside n (read_to today s n)
unfolding read_to
read-inside s zero = tt
read-inside s (suc n) = inside-more n (read_to today s n) (line_read s n) (read-inside s n)

abbrev AllInside : ℕ → Listing → Type 0
AllInside n (read_as ps) = All (Inside n) ps
AllInside n (refused_listing r) = Unit {0}

-- every point of a listing stands on one of its lines
all-inside : (s : List ℕ) → AllInside (length s / line_bytes) (listing_of s)
unfolding listing_within
all-inside s =
    cond_cases (AllInside n) (good_length (length s)) (listing_from n (read_to today s n)) (refused_listing ListingLength) (λ e. from (read_to today s n) (read-inside s n)) (λ e. tt)
  where
    n : ℕ
    n = length s / line_bytes

    or : (j : Judgement) (ps : List Point) → All (Inside n) ps → AllInside n (listing_or j ps)
    or (Ok u) ps h = h
    or (Err r) ps h = tt

    from : (x : Reading) → ReadInside n x → AllInside n (listing_from n x)
    from (refused_reading r) h = tt
    from (going ps cs) h = or (whole_judged n ps cs) ps h

part-is : (s : List ℕ) (p : ℕ) → claim_part s p ≡ part_judged (claim_lines_judged (listing_of s) p) (point_at (points_of (listing_of s)) p)
unfolding claim_part
part-is s p = refl

-- a part lies in the listing
abbrev Fits : List ℕ → Result ClaimPart Refusal → Type 0
Fits s (Ok c) = c.offset + c.length ≤ length s
Fits s (Err r) = Unit {0}

part-fits : (s : List ℕ) (p : ℕ) → Fits s (claim_part s p)
part-fits s p = rw (part-is s p) (go (listing_of s) refl (all-inside s))
  where
    go : (x : Listing) → listing_of s ≡ x → AllInside (length s / line_bytes) x → Fits s (part_judged (claim_lines_judged x p) (point_at (points_of x) p))
    go (refused_listing r) e h = tt
    go (read_as ps) e h = here (dec_le (length ps) p)
      where
        here : Dec (length ps ≤ p) → Fits s (part_judged (claim_lines_judged (read_as ps) p) (point_at ps p))
        here (yes past) = rw (le-ltb p (length ps) past) tt
        here (no within) =
            let i : p < length ps = omega arith in
            let last : (point_at ps p).line ≤ length s / line_bytes = all-at (Inside (length s / line_bytes)) ps _ p i h in
            let before : length (point_at ps p).claims < (point_at ps p).line = (all-at PointLimited ps _ p i (well-formed s ps e).limited).before in
            rw (lt-ltb p (length ps) i) (omega arith)

-- what the call for the bytes hands back, by the model's part
module _ (s : List ℕ) (p : ℕ) (x : Result ClaimPart Refusal) (is : x ≡ claim_part s p) where
  pub lies-inside : (c : ClaimPart) → x ≡ Ok c → c.offset + c.length ≤ length s
  lies-inside c e = rw (sym is ∙ e) at (part-fits s p)

  pub holds-lines : (c : ClaimPart) → x ≡ Ok c → take c.length (drop c.offset s) ≡ claim_lines s p
  holds-lines c e = rw (sym is ∙ e) at (part-lines s p)

  pub holds-none : (r : Refusal) → x ≡ Err r → [] ≡ claim_lines s p
  holds-none r e = rw (sym is ∙ e) at (part-lines s p)

  pub judged-ok : (c : ClaimPart) → x ≡ Ok c → accepted ≡ claim_lines_judged (listing_of s) p
  judged-ok c e = rw (sym is ∙ e) at (part-judged s p)

  pub judged-err : (r : Refusal) → x ≡ Err r → Err r ≡ claim_lines_judged (listing_of s) p
  judged-err r e = rw (sym is ∙ e) at (part-judged s p)

-- the part by the numbers of a place
pub part_at : (rows : List Row) (at : List Place) (p from n : ℕ) → from ≡ first_in at p → n ≡ number_in at p → Ok (record { offset = from * line_bytes; length = n * line_bytes }) ≡ part_judged accepted (point_in rows at p)
part_at rows at p from n a b = rw (a, b, claims-count rows (first_in at p) (number_in at p))

-- a point of a listing that is read has its place
pub point-placed : (x : Listing) (n : ℕ) (rows : List Row) (at : List Place) (p : ℕ) → Stands x (Ok n) rows at → p < n → Placed rows at p
point-placed (read_as ps) n rows at p h k = h.1.all.each p k
point-placed (refused_listing x) n rows at p h k = absurd h

module _ (s : List ℕ) (rows : List Row) (at : List Place) (p : ℕ) where
  pub none-refused : (r : Refusal) → Stands (listing_of s) (Err r) rows at → Err r ≡ claim_part s p
  none-refused r stands = go (listing_of s) stands ∙ sym (part-is s p)
    where
      go : (x : Listing) → Stands x (Err r) rows at → Err r ≡ part_judged (claim_lines_judged x p) (point_at (points_of x) p)
      go (read_as ps) h = absurd h
      go (refused_listing x) h = ap Err h

  module _ (n : ℕ) (stands : Stands (listing_of s) (Ok n) rows at) where
    pub none-past : n ≤ p → Err NoSuchPoint ≡ claim_part s p
    none-past k = go (listing_of s) stands ∙ sym (part-is s p)
      where
        go : (x : Listing) → Stands x (Ok n) rows at → Err NoSuchPoint ≡ part_judged (claim_lines_judged x p) (point_at (points_of x) p)
        go (read_as ps) h = let m : n ≡ length ps = sym (points-count rows at n) ∙ ap length h.0 in rw (le-ltb p (length ps) (omega arith)) refl
        go (refused_listing x) h = absurd h

    pub part-read : (c : ClaimPart) → p < n → Ok c ≡ part_judged accepted (point_in rows at p) → Ok c ≡ claim_part s p
    part-read c k is = is ∙ go (listing_of s) stands ∙ sym (part-is s p)
      where
        go : (x : Listing) → Stands x (Ok n) rows at → part_judged accepted (point_in rows at p) ≡ part_judged (claim_lines_judged x p) (point_at (points_of x) p)
        go (refused_listing x) h = absurd h
        go (read_as ps) h =
            let m : n ≡ length ps = sym (points-count rows at n) ∙ ap length h.0 in
            let i : p < length ps = omega arith in
            rw (lt-ltb p (length ps) i, ← h.0, points-at rows at n p k)
