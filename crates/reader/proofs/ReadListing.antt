-- A listing read by the code is the model's. Assumes nothing.
use mathlib.Core.Path.{◌≡◌, refl, sym, ap, subst, ◌∙◌}
use mathlib.Core.Bool.{true, false, ◌&&◌, false≢true}
use mathlib.Core.List.{List, [], ◌∷◌}
use Prim.Native.Nat.{ℕ, ◌+◌, ◌*◌, ◌-◌, ◌/◌, ◌%◌, ◌≤◌, ◌<◌}
use native.Mathlib.Omega.{arith}
use native.Mathlib.Decide.{dec_lt}
use lib.ListN.{length}
use lib.Dec.{leb}
use borrow.Author.Tests.{eqb-true, leb-true, ltb-true}
use Rattle.model.specs.declared.claims.Claim.{Claim}
use Rattle.model.specs.declared.answers.Refusal.{Refusal}
use Rattle.model.specs.declared.answers.Refusal.TheVariants.{ListingLength, NoSuchTarget}
use Rattle.model.specs.Types.{Judgement, accepted}
use Rattle.std.specs.Prelude.{Ok, Err}
use Rattle.model.specs.Limits.{line_bytes, greatest_listing, greatest_points, greatest_lines, today}
use Rattle.model.specs.Answers.{◌and_then◌}
use Rattle.model.specs.Instructions.{targets, goes_on}
use Rattle.model.specs.Listing.{Point, point_at, targets_exist, ends_with_instruction, few_points, all_targets_exist, ends_in_place, starts_non_empty, whole_judged, Reading, going, refused_reading, read_to, refused_listing, listing_or, listing_from, good_length, listing_of, listing_within}
use Rattle.model.proofs.Tests.{and_left, and_right}
use Rattle.model.proofs.Steps.{targets-at}
use Rattle.model.proofs.Reading.{both-accepted, test-passed, WellFormed, well-formed}
use Rattle.scan.specs.declared.Scan.{Scan}
use Rattle.scan.specs.Scan.{scan_of, progress_of}
use Rattle.line_rows.specs.declared.rows.Row.{Row}
use Rattle.rows_and_places.specs.declared.places.Place.{Place}
use Rattle.rows_and_places.specs.Points.{point_in, points_in, Holds}
use Rattle.rows_and_places.specs.Read.{Scanned, ScannedSo, AllRead}
use Rattle.reader.specs.Listing.{Stands}
use Rattle.rows_and_places.proofs.PlacedPoints.{points-are}

-- so many points and claims, where nothing turned the lines back
pub all_read : (rows : List Row) (at : List Place) (lines : ℕ) (x : Reading) (q : Scan) → ScannedSo rows at lines x → progress_of x ≡ Ok q → 1 ≤ lines → AllRead rows at q
all_read rows at lines (refused_reading r) q h e one = let z : ◌≡◌ {A = ℕ} 0 1 = cc in absurd (omega arith)
all_read rows at lines (going ps cs) q h e one =
    let is : scan_of ps cs ≡ q = cc in
    subst (AllRead rows at) is (record { some = h.some one; each = λ p b f. (h.each p b f).placed })

few-points : (lines : ℕ) (ps : List Point) (cs : List Claim) → whole_judged lines ps cs ≡ accepted → length ps ≤ greatest_points
unfolding whole_judged
few-points lines ps cs e =
    let (e10, _) = both-accepted (ends_with_instruction lines cs and_then few_points ps and_then all_targets_exist (length ps) ps and_then ends_in_place lines ps) (starts_non_empty ps) e in
    let (e9, _) = both-accepted (ends_with_instruction lines cs and_then few_points ps and_then all_targets_exist (length ps) ps) (ends_in_place lines ps) e10 in
    let (e8, _) = both-accepted (ends_with_instruction lines cs and_then few_points ps) (all_targets_exist (length ps) ps) e9 in
    let (_, few) = both-accepted (ends_with_instruction lines cs) (few_points ps) e8 in
    leb-true (length ps) greatest_points (test-passed _ _ few)

-- the points of a listing that is accepted are held
module _ (rows : List Row) (at : List Place) (lines : ℕ) (ps : List Point) (cs : List Claim) (h : Scanned rows at lines ps cs) (few : length ps ≤ greatest_points) (formed : WellFormed ps) where
  same : (p : ℕ) → p < length ps → point_in rows at p ≡ point_at ps p
  same p b = (h.each p b (omega arith)).is

  next-exists : (p : ℕ) → p < length ps → goes_on (point_at ps p).instruction ≡ true → p + 1 < length ps
  next-exists p b e = go (dec_lt (p + 1) (length ps))
    where
      go : Dec (p + 1 < length ps) → p + 1 < length ps
      go (yes i) = i
      go (no i) =
          let last : length ps - 1 ≡ p = omega arith in
          let end : goes_on (point_at ps p).instruction ≡ false = rw last at formed.ends in
          absurd (false≢true (sym end ∙ e))

  target-exists : (p t : ℕ) → p < length ps → targets (point_at ps p).instruction ≡ t ∷ [] → t < length ps
  target-exists p t b e =
      let l = (point_at ps p).line in
      let all = ap (targets_exist (length ps) l) (sym e) ∙ targets-at (length ps) ps _ p b formed.targets in
      ltb-true t (length ps) (test-passed _ (NoSuchTarget l) (both-accepted _ _ all).0)

  points-held : Holds rows at (length ps)
  points-held = record {
    all = record { few = few; each = λ p b. (h.each p b (omega arith)).placed };
    next = λ p b e. next-exists p b (ap (λ (q : Point). goes_on q.instruction) (sym (same p b)) ∙ e);
    target = λ p t b e. target-exists p t b (ap (λ (q : Point). targets q.instruction) (sym (same p b)) ∙ e);
  }

  points-same : points_in rows at (length ps) ≡ ps
  points-same = points-are rows at ps same

-- the listing, whose first lines were turned back, or whose lines were all read and then judged as a whole
module _ (s : List ℕ) (lines : ℕ) (good : listing_of s ≡ listing_from lines (read_to today s lines)) (rows : List Row) (at : List Place) where
  pub stands-turned : (r : Refusal) → progress_of (read_to today s lines) ≡ Err r → Stands (listing_of s) (Err r) rows at
  stands-turned r e = rw good (go (read_to today s lines) e)
    where
      go : (x : Reading) → progress_of x ≡ Err r → Stands (listing_from lines x) (Err r) rows at
      go (refused_reading x) p = cc
      go (going ps cs) p = let z : ◌≡◌ {A = ℕ} 0 1 = cc in absurd (omega arith)

  module _ (q : Scan) (h : ScannedSo rows at lines (read_to today s lines)) (e : progress_of (read_to today s lines) ≡ Ok q) (j : Judgement)
      (judged : (ps : List Point) (cs : List Claim) → Scanned rows at lines ps cs → q ≡ scan_of ps cs → j ≡ whole_judged lines ps cs) where
    read : (ps : List Point) (cs : List Claim) → read_to today s lines ≡ going ps cs → (x : Judgement) → whole_judged lines ps cs ≡ x → listing_of s ≡ listing_or x ps
    read ps cs r x w = good ∙ ap (listing_from lines) r ∙ ap (λ (y : Judgement). listing_or y ps) w

    pub stands-refused : (r : Refusal) → j ≡ Err r → Stands (listing_of s) (Err r) rows at
    stands-refused r is = go (read_to today s lines) refl h e
      where
        go : (x : Reading) → read_to today s lines ≡ x → ScannedSo rows at lines x → progress_of x ≡ Ok q → Stands (listing_of s) (Err r) rows at
        go (refused_reading x) t h p = let z : ◌≡◌ {A = ℕ} 0 1 = cc in absurd (omega arith)
        go (going ps cs) t h p =
            let same : q ≡ scan_of ps cs = cc in
            rw (read ps cs t (Err r) (sym (judged ps cs h same) ∙ is)) refl

    pub stands-going : (u : Unit {0}) → j ≡ Ok u → Stands (listing_of s) (Ok q.points) rows at
    stands-going u is = go (read_to today s lines) refl h e
      where
        go : (x : Reading) → read_to today s lines ≡ x → ScannedSo rows at lines x → progress_of x ≡ Ok q → Stands (listing_of s) (Ok q.points) rows at
        go (refused_reading x) t h p = let z : ◌≡◌ {A = ℕ} 0 1 = cc in absurd (omega arith)
        go (going ps cs) t h p =
            let same : q ≡ scan_of ps cs = cc in
            let count : q.points ≡ length ps = ap (λ (x : Scan). x.points) same in
            let w : whole_judged lines ps cs ≡ accepted = sym (judged ps cs h same) ∙ is in
            let few = few-points lines ps cs w in
            let formed = well-formed s ps (read ps cs t accepted w) in
            rw (read ps cs t accepted w, count) (points-same rows at lines ps cs h few formed, points-held rows at lines ps cs h few formed)

pub listing-good : (s : List ℕ) → good_length (length s) ≡ true → listing_of s ≡ listing_from (length s / line_bytes) (read_to today s (length s / line_bytes))
unfolding listing_within
listing-good s e = rw e

pub listing-bad : (s : List ℕ) → good_length (length s) ≡ false → listing_of s ≡ refused_listing ListingLength
unfolding listing_within
listing-bad s e = rw e

-- a good length has at least one line and not too many, and no byte left over
pub record GoodLines (n : ℕ) : Type 0 where
  pub some : 1 ≤ n / line_bytes
  pub few : n / line_bytes ≤ greatest_lines
  pub whole : n / line_bytes * line_bytes ≤ n
  pub short : n ≤ greatest_listing

pub good-lines : (n : ℕ) → good_length n ≡ true → GoodLines n
unfolding good_length
good-lines n e =
    let ends = and_left (leb 1 n && leb n greatest_listing) _ e in
    let a = leb-true 1 n (and_left (leb 1 n) (leb n greatest_listing) ends) in
    let b = leb-true n greatest_listing (and_right (leb 1 n) (leb n greatest_listing) ends) in
    let c = eqb-true (n % line_bytes) 0 (and_right (leb 1 n && leb n greatest_listing) _ e) in
    record { some = omega arith; few = omega arith; whole = omega arith; short = b }
