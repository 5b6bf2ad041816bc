-- What is known of the points of a listing that is read. Assumes nothing.
use mathlib.Core.Path.{◌≡◌, refl}
use mathlib.Core.Bool.{Bool, true, false, cond, false≢true}
use mathlib.Core.List.{List, [], ◌∷◌, ◌++◌}
use Prim.Native.Nat.{ℕ, zero, suc, ◌+◌, ◌-◌, ◌/◌, ◌≤◌, ◌<◌}
use native.Mathlib.Omega.{arith}
use lib.ListN.{length, length-append}
use Rattle.model.specs.Types.{Claim, Line, refused_line, claim_line, instruction_line, Refusal, ListingLength, NoEnd, ClaimOrder, Judgement, accepted, Err, Ok}
use Rattle.model.specs.Limits.{line_bytes, today}
use Rattle.model.specs.Answers.{◌and_then◌}
use Rattle.model.specs.Lines.{read_line}
use Rattle.model.specs.Instructions.{goes_on}
use Rattle.model.specs.Listing.{Point, line_at, in_order, Reading, going, refused_reading, after_line, read_to, point_at, ends_with_instruction, few_points, all_targets_exist, ends_in_place, starts_non_empty, whole_judged, Listing, read_as, refused_listing, listing_or, listing_from, good_length, listing_of, listing_within}
use Rattle.model.proofs.Tests.{cond_cases}
use Rattle.model.proofs.Lists.{All, all_snoc}
use Rattle.model.specs.Limited.{Limited, ClaimLimited, LineLimited}
use Rattle.model.proofs.Limited.{read-limited}

-- two tests made in order are both passed
pub both-accepted : (j k : Judgement) → (j and_then k) ≡ accepted → (j ≡ accepted) × (k ≡ accepted)
both-accepted (Ok u) k e = (refl, e)
both-accepted (Err r) k e = absurd (never e)
  where
    never : Err r ≡ accepted → ⊥
    never q = let z : ◌≡◌ {A = ℕ} 0 1 = cc in omega arith

pub test-passed : (b : Bool) (r : Refusal) → cond b accepted (Err r) ≡ accepted → b ≡ true
test-passed true r e = refl
test-passed false r e = let z : ◌≡◌ {A = ℕ} 0 1 = cc in absurd (omega arith)

-- and the other way round
pub accepted-both : (j k : Judgement) → j ≡ accepted → k ≡ accepted → (j and_then k) ≡ accepted
accepted-both (Ok u) k e f = f
accepted-both (Err r) k e f = e

pub passed-test : (b : Bool) (r : Refusal) → b ≡ true → cond b accepted (Err r) ≡ accepted
passed-test true r e = refl
passed-test false r e = absurd (false≢true e)

-- a point lies within the limits, and its claims stand on the lines before its instruction
pub record PointLimited (q : Point) : Type 0 where
  pub instruction : Limited q.instruction
  pub claims : All ClaimLimited q.claims
  pub before : length q.claims < q.line

abbrev ReadWell : ℕ → Reading → Type 0
ReadWell n (going ps cs) = All PointLimited ps × All ClaimLimited cs × (length cs ≤ n)
ReadWell n (refused_reading r) = Unit {0}

read_more : (n : ℕ) (q : Reading) (l : Line) → ReadWell n q → LineLimited l → ReadWell (suc n) (after_line q n l)
read_more n (refused_reading r) l h t = tt
read_more n (going ps cs) (refused_line r) h t = tt
read_more n (going ps cs) (claim_line c) h t =
    cond_cases (ReadWell (suc n)) (in_order n cs c) (going ps (cs ++ (c ∷ []))) (refused_reading (ClaimOrder (n + 1)))
    (λ e. (h.0, all_snoc ClaimLimited cs c h.1 t, rw (length-append cs (c ∷ [])) (omega arith))) (λ e. tt)
read_more n (going ps cs) (instruction_line i) h t =
    (all_snoc PointLimited ps _ h.0 (record { instruction = t; claims = h.1; before = omega arith }), tt, omega arith)

read-well : (s : List ℕ) (n : ℕ) → ReadWell n (read_to today s n)
unfolding read_to
read-well s zero = (tt, tt, omega arith)
read-well s (suc n) = read_more n (read_to today s n) (read_line today (n + 1) (line_at s n)) (read-well s n) (read-limited (n + 1) (line_at s n))

-- the points of a listing: within the limits, every target a point, the last instruction STOP or JUMP
pub record WellFormed (ps : List Point) : Type 0 where
  pub limited : All PointLimited ps
  pub targets : all_targets_exist (length ps) ps ≡ accepted
  pub ends : goes_on (point_at ps (length ps - 1)).instruction ≡ false

abbrev ListingWell : Listing → Type 0
ListingWell (read_as ps) = WellFormed ps
ListingWell (refused_listing r) = Unit {0}

ends-passed : (b : Bool) (r : Refusal) → cond b (Err r) accepted ≡ accepted → b ≡ false
ends-passed false r e = refl
ends-passed true r e = let z : ◌≡◌ {A = ℕ} 0 1 = cc in absurd (omega arith)

whole-well : (lines : ℕ) (ps : List Point) (cs : List Claim) → All PointLimited ps → (j : Judgement) → whole_judged lines ps cs ≡ j → ListingWell (listing_or j ps)
unfolding whole_judged
whole-well lines ps cs h (Err r) e = tt
whole-well lines ps cs h (Ok u) e =
    let (e10, e11) = both-accepted (ends_with_instruction lines cs and_then few_points ps and_then all_targets_exist (length ps) ps and_then ends_in_place lines ps) (starts_non_empty ps) e in
    let (e9, end) = both-accepted (ends_with_instruction lines cs and_then few_points ps and_then all_targets_exist (length ps) ps) (ends_in_place lines ps) e10 in
    let (e8, target) = both-accepted (ends_with_instruction lines cs and_then few_points ps) (all_targets_exist (length ps) ps) e9 in
    record { limited = h; targets = target; ends = ends-passed (goes_on (point_at ps (length ps - 1)).instruction) (NoEnd lines) end }

from-well : (n : ℕ) (q : Reading) → ReadWell n q → ListingWell (listing_from n q)
from-well n (refused_reading r) h = tt
from-well n (going ps cs) h = whole-well n ps cs h.0 (whole_judged n ps cs) refl

listing-well : (s : List ℕ) → ListingWell (listing_of s)
unfolding listing_within
listing-well s =
    cond_cases ListingWell (good_length (length s)) (listing_from (length s / line_bytes) (read_to today s (length s / line_bytes))) (refused_listing ListingLength)
    (λ e. from-well (length s / line_bytes) (read_to today s (length s / line_bytes)) (read-well s (length s / line_bytes))) (λ e. tt)

-- a listing that is read is well-formed
pub well-formed : (s : List ℕ) (ps : List Point) → listing_of s ≡ read_as ps → WellFormed ps
well-formed s ps e = rw e at (listing-well s)
