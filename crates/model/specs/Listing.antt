-- Document 01, 'Claims' and 'Turned back': from the lines of a listing to its points, refusals 1 and 6 to 11, and the claim lines of a point.
-- The lines are read from the first on; the first refusal stays. 7 to 11 are tested over the whole once every line is read.
use Prim.Native.Nat.{ℕ, zero, suc, ◌+◌, ◌*◌, ◌-◌, ◌/◌, ◌%◌}
use Rattle.std.specs.Prelude.{Bool, true, false, not, ◌&&◌, get_or, take, drop, leb, ltb, eqb}
use Rattle.std.proofs.Math.Bool.{cond}
use mathlib.Core.List.{List, [], ◌∷◌, ◌++◌}
use Rattle.std.proofs.Math.ListN.{length}
use Rattle.model.specs.Types.{Instruction, Stop, Claim, Leas, Most, Strp, Turn, Line, refused_line, claim_line, instruction_line, Refusal, ListingLength, ClaimOrder, LastLineClaim, TooManyPoints, NoSuchTarget, NoEnd, EmptyStart, NoSuchPoint, Judgement, accepted, Result, Err, ClaimPart, Ok}
use Rattle.model.specs.Limits.{line_bytes, greatest_listing, greatest_points, greatest_stripes, StripeLimits, today}
use Rattle.model.specs.Answers.{◌and_then◌}
use Rattle.model.specs.Instructions.{targets, goes_on}
use Rattle.model.specs.Lines.{read_line}
use Rattle.model.specs.Facts.{facts_of, non_empty}

-- a 'point': its instruction, the instruction's line counted from 1, and the claims of the lines just before it
pub record Point : Type 0 where
  pub line : ℕ
  pub claims : List Claim
  pub instruction : Instruction

-- a point is 'empty' if some variable has no value left by its LEAS and MOST lines and the unclaimed ends; stripes are not looked at
abbrev pub is_empty : Point → Bool
is_empty q = not (non_empty (facts_of q.claims).ranges)

-- the line of a point's first claim
abbrev pub first_line : Point → ℕ
first_line q = q.line - length q.claims

-- line k of a listing, counted from 0
abbrev pub line_at : List ℕ → ℕ → List ℕ
line_at s k = take line_bytes (drop (k * line_bytes) s)

-- a claim may stand right after another: LEAS lines by rising variable, then MOST lines by rising variable, then STRP lines; a TURN only before all of them
abbrev pub may_follow : Claim → Claim → Bool
may_follow (Leas u m) (Leas v n) = ltb u v
may_follow (Leas u m) (Most v n) = true
may_follow (Leas u m) (Strp s) = true
may_follow (Most u m) (Leas v n) = false
may_follow (Most u m) (Most v n) = ltb u v
may_follow (Most u m) (Strp s) = true
may_follow (Strp q) (Leas v n) = false
may_follow (Strp q) (Most v n) = false
may_follow (Strp q) (Strp s) = true
may_follow (Turn r) (Leas v n) = true
may_follow (Turn r) (Most v n) = true
may_follow (Turn r) (Strp s) = true
may_follow (Leas u m) (Turn r) = false
may_follow (Most u m) (Turn r) = false
may_follow (Strp q) (Turn r) = false
may_follow (Turn q) (Turn r) = false

-- a claim may be the first of its point, with k lines before it: TURN only where it is the listing's first line
abbrev pub may_begin : ℕ → Claim → Bool
may_begin k (Leas v n) = true
may_begin k (Most v n) = true
may_begin k (Strp s) = true
may_begin k (Turn r) = eqb k 0

-- a claim may stand after the last of some, with k lines before it
abbrev pub may_follow_all : ℕ → List Claim → Claim → Bool
may_follow_all k [] c = may_begin k c
may_follow_all k (b ∷ []) c = may_follow b c
may_follow_all k (a ∷ (b ∷ bs)) c = may_follow_all k (b ∷ bs) c

-- the number of stripes among some claims
abbrev pub stripes_among : List Claim → ℕ
stripes_among [] = 0
stripes_among (Leas v n ∷ cs) = stripes_among cs
stripes_among (Most v n ∷ cs) = stripes_among cs
stripes_among (Strp s ∷ cs) = stripes_among cs + 1
stripes_among (Turn r ∷ cs) = stripes_among cs

-- 6: a claim with k lines before it stands in order after those of its point, and is no ninth stripe
abbrev pub in_order : ℕ → List Claim → Claim → Bool
in_order k cs c = may_follow_all k cs c && leb (stripes_among (c ∷ cs)) greatest_stripes

-- what is read so far: the points, and the claims since the last of them; or the first refusal
pub data Reading : Type 0 where
  going : List Point → List Claim → Reading
  refused_reading : Refusal → Reading

-- one line more, the k-th counted from 0
abbrev pub after_line : Reading → ℕ → Line → Reading
after_line (refused_reading r) k l = refused_reading r
after_line (going ps cs) k (refused_line r) = refused_reading r
after_line (going ps cs) k (claim_line c) = cond (in_order k cs c) (going ps (cs ++ (c ∷ []))) (refused_reading (ClaimOrder (k + 1)))
after_line (going ps cs) k (instruction_line i) = going (ps ++ (record { line = k + 1; claims = cs; instruction = i } ∷ [])) []

-- within these limits of scales and bounds
module _ (L : StripeLimits) where
  -- the first n lines
  unfoldable pub read_to : List ℕ → ℕ → Reading
  unfolding read_line
  read_to s zero = going [] []
  read_to s (suc n) = after_line (read_to s n) n (read_line L (n + 1) (line_at s n))

-- point p; past the last a STOP without claims
abbrev pub point_at : List Point → ℕ → Point
point_at ps p = get_or ps p (record { line = 0; claims = []; instruction = Stop })

-- 7: no claim is left without its instruction
abbrev pub ends_with_instruction : ℕ → List Claim → Judgement
ends_with_instruction lines [] = accepted
ends_with_instruction lines (c ∷ cs) = Err (LastLineClaim lines)

-- 8: there are at most 512 points
abbrev pub few_points : List Point → Judgement
few_points ps = cond (leb (length ps) greatest_points) accepted (Err (TooManyPoints (point_at ps greatest_points).line))

-- 9: the targets ts of an instruction on line l are points of the listing, of which there are n
abbrev pub targets_exist : ℕ → ℕ → List ℕ → Judgement
targets_exist n l [] = accepted
targets_exist n l (t ∷ ts) = cond (ltb t n) accepted (Err (NoSuchTarget l)) and_then targets_exist n l ts

-- 9, for every point in order
abbrev pub all_targets_exist : ℕ → List Point → Judgement
all_targets_exist n [] = accepted
all_targets_exist n (q ∷ qs) = targets_exist n q.line (targets q.instruction) and_then all_targets_exist n qs

-- 10: the last instruction is STOP or JUMP
abbrev pub ends_in_place : ℕ → List Point → Judgement
ends_in_place lines ps = cond (goes_on (point_at ps (length ps - 1)).instruction) (Err (NoEnd lines)) accepted

-- 11: point 0 is not empty
abbrev pub starts_non_empty : List Point → Judgement
starts_non_empty ps = cond (is_empty (point_at ps 0)) (Err (EmptyStart (point_at ps 0).line)) accepted

-- 7 to 11, in order
unfoldable pub whole_judged : ℕ → List Point → List Claim → Judgement
unfolding facts_of non_empty
whole_judged lines ps cs =
    ends_with_instruction lines cs and_then few_points ps and_then all_targets_exist (length ps) ps and_then ends_in_place lines ps and_then starts_non_empty ps

-- a listing is read as its points, or turned back by one of 1 to 11 or by 19
pub data Listing : Type 0 where
  read_as : List Point → Listing
  refused_listing : Refusal → Listing

-- the points, where nothing turns the listing back
abbrev pub listing_or : Judgement → List Point → Listing
listing_or (Ok u) ps = read_as ps
listing_or (Err r) ps = refused_listing r

-- a listing of so many lines that were read
abbrev pub listing_from : ℕ → Reading → Listing
listing_from lines (refused_reading r) = refused_listing r
listing_from lines (going ps cs) = listing_or (whole_judged lines ps cs) ps

-- 1: the listing has at least one line and whole lines, and is not too long
unfoldable pub good_length : ℕ → Bool
good_length n = leb 1 n && leb n greatest_listing && eqb (n % line_bytes) 0

-- within these limits of scales and bounds
module _ (L : StripeLimits) where
  -- a listing, read
  unfoldable pub listing_within : List ℕ → Listing
  unfolding good_length read_to whole_judged
  listing_within s =
      let lines = length s / line_bytes in
      let read = listing_from lines (read_to L s lines) in
      cond (good_length (length s)) read (refused_listing ListingLength)

-- a listing, read within today's limits
abbrev pub listing_of : List ℕ → Listing
listing_of s = listing_within today s

-- the points of a listing; none where it is turned back
abbrev pub points_of : Listing → List Point
points_of (read_as ps) = ps
points_of (refused_listing r) = []

-- 16: the point exists
abbrev pub point_exists : List Point → ℕ → Judgement
point_exists ps p = cond (ltb p (length ps)) accepted (Err NoSuchPoint)

-- what turns the call for claim lines back: a refusal of reading, 1 to 11 or 19, and without one a point that does not exist, 16
abbrev pub claim_lines_judged : Listing → ℕ → Judgement
claim_lines_judged (read_as ps) p = point_exists ps p
claim_lines_judged (refused_listing r) p = Err r

-- where the claim lines of a point begin in the listing
abbrev pub claim_offset : Point → ℕ
claim_offset q = (first_line q - 1) * line_bytes

-- how many bytes they have
abbrev pub claim_length : Point → ℕ
claim_length q = length q.claims * line_bytes

-- the part of the listing that holds them
abbrev pub claim_bytes : List ℕ → Point → List ℕ
claim_bytes s q = take (claim_length q) (drop (claim_offset q) s)

-- the part, where nothing turns the call back
abbrev pub part_or : Judgement → List ℕ → List ℕ
part_or (Ok u) l = l
part_or (Err r) l = []

-- the claim lines of point p as a part of the listing, empty on refusal
unfoldable pub claim_lines : List ℕ → ℕ → List ℕ
unfolding listing_within
claim_lines s p = part_or (claim_lines_judged (listing_of s) p) (claim_bytes s (point_at (points_of (listing_of s)) p))

-- the place of the part, where nothing turns the call back
abbrev pub part_judged : Judgement → Point → Result ClaimPart Refusal
part_judged (Ok u) q = Ok (record { offset = claim_offset q; length = claim_length q })
part_judged (Err r) q = Err r

-- the same part by its offset and its length, or what turns the call back
unfoldable pub claim_part : List ℕ → ℕ → Result ClaimPart Refusal
unfolding listing_within
claim_part s p = part_judged (claim_lines_judged (listing_of s) p) (point_at (points_of (listing_of s)) p)
