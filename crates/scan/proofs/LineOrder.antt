-- What the code keeps goes with what the model reads, line by line. Assumes nothing.
use mathlib.Core.Path.{◌≡◌, refl, sym, ap}
use mathlib.Core.Bool.{Bool, true, false, cond, false≢true}
use mathlib.Core.List.{List, [], ◌∷◌, ◌++◌}
use Prim.Native.Nat.{ℕ, ◌+◌}
use native.Mathlib.Nat.{add-zero}
use native.Mathlib.Omega.{arith}
use lib.ListN.{length, length-append}
use Rattle.std.specs.Prelude.{Some, Ok, Err}
use Rattle.model.specs.declared.claims.Claim.{Claim}
use Rattle.model.specs.declared.claims.Claim.TheVariants.{Leas, Most, Strp, Turn}
use Rattle.model.specs.declared.claims.Line.{Line}
use Rattle.model.specs.declared.claims.Line.TheVariants.{Refused as refused_line, Claim as claim_line, Instruction as instruction_line}
use Rattle.model.specs.declared.answers.Refusal.TheVariants.{ClaimOrder}
use Rattle.model.specs.Listing.{Point, may_follow, may_begin, may_follow_all, stripes_among, in_order, Reading, going, refused_reading, after_line}
use Rattle.model.specs.Writing.{is_taken}
use Rattle.scan.specs.Scan.{order_of, last_of, may_stand, may_start, may_come, stripes_of, order_on, scan_of, progress_of, in_order_after, after_scan}

pub stripes-cons : (c : Claim) (cs : List Claim) → stripes_among (c ∷ cs) ≡ stripes_among cs + stripes_of (order_of c)
stripes-cons (Leas v n) cs = sym (add-zero (stripes_among cs))
stripes-cons (Most v n) cs = sym (add-zero (stripes_among cs))
stripes-cons (Strp s) cs = refl
stripes-cons (Turn r) cs = sym (add-zero (stripes_among cs))

pub stripes-snoc : (cs : List Claim) (c : Claim) → stripes_among (cs ++ (c ∷ [])) ≡ stripes_among cs + stripes_of (order_of c)
stripes-snoc [] c = stripes-cons c []
stripes-snoc (b ∷ cs) c = omega (arith, stripes-cons b (cs ++ (c ∷ [])), stripes-cons b cs, stripes-snoc cs c)

last_snoc : (cs : List Claim) (c : Claim) → last_of (cs ++ (c ∷ [])) ≡ Some (order_of c)
last_snoc [] c = refl
last_snoc (a ∷ []) c = refl
last_snoc (a ∷ (b ∷ bs)) c = last_snoc (b ∷ bs) c

-- the order of two claims is all that counts
follow-same : (b c : Claim) → may_follow b c ≡ may_stand (order_of b) (order_of c)
follow-same (Leas u n) (Leas v m) = refl
follow-same (Leas u n) (Most v m) = refl
follow-same (Leas u n) (Strp s) = refl
follow-same (Leas u n) (Turn r) = refl
follow-same (Most u n) (Leas v m) = refl
follow-same (Most u n) (Most v m) = refl
follow-same (Most u n) (Strp s) = refl
follow-same (Most u n) (Turn r) = refl
follow-same (Strp t) (Leas v m) = refl
follow-same (Strp t) (Most v m) = refl
follow-same (Strp t) (Strp s) = refl
follow-same (Strp t) (Turn r) = refl
follow-same (Turn q) (Leas v m) = refl
follow-same (Turn q) (Most v m) = refl
follow-same (Turn q) (Strp s) = refl
follow-same (Turn q) (Turn r) = refl

start-same : (k : ℕ) (c : Claim) → may_begin k c ≡ may_start k (order_of c)
start-same k (Leas v n) = refl
start-same k (Most v n) = refl
start-same k (Strp s) = refl
start-same k (Turn r) = refl

follow-last : (k : ℕ) (cs : List Claim) (c : Claim) → may_follow_all k cs c ≡ may_come (last_of cs) k (order_of c)
follow-last k [] c = start-same k c
follow-last k (b ∷ []) c = follow-same b c
follow-last k (a ∷ (b ∷ bs)) c = follow-last k (b ∷ bs) c

order_same : (ps : List Point) (k : ℕ) (cs : List Claim) (c : Claim) → in_order k cs c ≡ in_order_after (scan_of ps cs) k (order_of c)
order_same ps k cs c = rw (stripes-cons c cs, follow-last k cs c)

-- one line more that is a claim
after-claim : (ps : List Point) (cs : List Claim) (k : ℕ) (c : Claim) → progress_of (after_line (going ps cs) k (claim_line c)) ≡ after_scan (Ok (scan_of ps cs)) k (Some (order_of c))
after-claim ps cs k c = rw (order_same ps k cs c) (go (in_order_after (scan_of ps cs) k (order_of c)))
  where
    more : scan_of ps (cs ++ (c ∷ [])) ≡ record { points = length ps; claims = length cs + 1; stripes = stripes_among cs + stripes_of (order_of c); last = Some (order_of c) }
    more = rw (length-append cs (c ∷ []), stripes-snoc cs c, last_snoc cs c)

    go : (b : Bool) → progress_of (cond b (going ps (cs ++ (c ∷ []))) (refused_reading (ClaimOrder (k + 1)))) ≡ cond b (Ok (record { points = length ps; claims = length cs + 1; stripes = stripes_among cs + stripes_of (order_of c); last = Some (order_of c) })) (Err (ClaimOrder (k + 1)))
    go true = ap Ok more
    go false = refl

-- one line more that is not turned back
pub after_same : (r : Reading) (k : ℕ) (l : Line) → is_taken l ≡ true → progress_of (after_line r k l) ≡ after_scan (progress_of r) k (order_on l)
after_same (refused_reading r) k l t = refl
after_same (going ps cs) k (refused_line r) t = absurd (false≢true t)
after_same (going ps cs) k (claim_line c) t = after-claim ps cs k c
after_same (going ps cs) k (instruction_line i) t = rw (length-append ps (_ ∷ []))
