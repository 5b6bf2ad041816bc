-- How the code keeps what the model reads: counts and the order of the last claim in place of lists.
use Rattle.std.specs.Prelude.{ℕ, ◌+◌, ◌≤◌, Bool, true, false, ◌&&◌, cond, List, [], ◌∷◌, length, leb, ltb, eqb, Option, None, Some, Result, Ok, Err}
use Rattle.model.specs.declared.claims.Claim.{Claim}
use Rattle.model.specs.declared.claims.Claim.TheVariants.{Leas, Most, Strp, Turn}
use Rattle.model.specs.declared.claims.Line.{Line}
use Rattle.model.specs.declared.claims.Line.TheVariants.{Refused as refused_line, Claim as claim_line, Instruction as instruction_line}
use Rattle.model.specs.declared.answers.Refusal.{Refusal}
use Rattle.model.specs.declared.answers.Refusal.TheVariants.{ClaimOrder}
use Rattle.model.specs.Limits.{greatest_stripes}
use Rattle.model.specs.Listing.{Point, stripes_among, Reading, going, refused_reading}
use Rattle.scan.specs.declared.Order.{Order}
use Rattle.scan.specs.declared.Order.TheVariants.{Turn as turn, Leas as leas, Most as most, Strp as strp}
use Rattle.scan.specs.declared.Scan.{Scan}

-- what decides where a claim may stand
abbrev pub order_of : Claim → Order
order_of (Leas v n) = leas v
order_of (Most v n) = most v
order_of (Strp s) = strp
order_of (Turn r) = turn

-- the order of the last of some claims
abbrev pub last_of : List Claim → Option Order
last_of [] = None
last_of (c ∷ []) = Some (order_of c)
last_of (a ∷ (b ∷ bs)) = last_of (b ∷ bs)

-- a claim may stand right after another
abbrev pub may_stand : Order → Order → Bool
may_stand turn turn = false
may_stand turn (leas v) = true
may_stand turn (most v) = true
may_stand turn strp = true
may_stand (leas u) turn = false
may_stand (leas u) (leas v) = ltb u v
may_stand (leas u) (most v) = true
may_stand (leas u) strp = true
may_stand (most u) turn = false
may_stand (most u) (leas v) = false
may_stand (most u) (most v) = ltb u v
may_stand (most u) strp = true
may_stand strp turn = false
may_stand strp (leas v) = false
may_stand strp (most v) = false
may_stand strp strp = true

-- a claim may be the first of its point, with k lines before it
abbrev pub may_start : ℕ → Order → Bool
may_start k turn = eqb k 0
may_start k (leas v) = true
may_start k (most v) = true
may_start k strp = true

-- a claim may stand after the last of its point, where there is one, with k lines before it
abbrev pub may_come : Option Order → ℕ → Order → Bool
may_come None k c = may_start k c
may_come (Some b) k c = may_stand b c

-- 1 for a stripe, 0 for any other claim
abbrev pub stripes_of : Order → ℕ
stripes_of turn = 0
stripes_of (leas v) = 0
stripes_of (most v) = 0
stripes_of strp = 1

-- what the order of the lines depends on: the order of a claim, none of an instruction
abbrev pub order_on : Line → Option Order
order_on (refused_line r) = None
order_on (claim_line c) = Some (order_of c)
order_on (instruction_line i) = None

-- what the code keeps of points and claims
abbrev pub scan_of : List Point → List Claim → Scan
scan_of ps cs = record { points = length ps; claims = length cs; stripes = stripes_among cs; last = last_of cs }

-- what the code keeps of a reading
abbrev pub progress_of : Reading → Result Scan Refusal
progress_of (going ps cs) = Ok (scan_of ps cs)
progress_of (refused_reading r) = Err r

-- the claim, with k lines before it, stands in order after those read
abbrev pub in_order_after : Scan → ℕ → Order → Bool
in_order_after q k c = may_come q.last k c && leb (q.stripes + stripes_of c) greatest_stripes

-- after the k-th line, counted from 0: one claim more, or 6 where it is out of order; or one point more
abbrev pub after_scan : Result Scan Refusal → ℕ → Option Order → Result Scan Refusal
after_scan (Err r) k o = Err r
after_scan (Ok q) k (Some c) =
    cond (in_order_after q k c) (Ok (record { points = q.points; claims = q.claims + 1; stripes = q.stripes + stripes_of c; last = Some c }))
    (Err (ClaimOrder (k + 1)))
after_scan (Ok q) k None = Ok (record { points = q.points + 1; claims = 0; stripes = 0; last = None })

-- the counts after k lines
abbrev pub Within : Scan → ℕ → Type 0
Within q k = (q.points ≤ k) × (q.claims ≤ k) × (q.stripes ≤ greatest_stripes)
