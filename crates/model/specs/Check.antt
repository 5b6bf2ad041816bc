-- Document 01, 'What a step does to claims' and 'Turned back': what each point owes, refusals 12 to 14, and the checker's answer.
-- A point owes, first, that its divisor or access is safe by what is known at the point itself, then, along each of its edges, the
-- claims of the point that the edge leads to, in the order of their lines. Whether anything leads to the point is not asked. Only an
-- empty point, document 02's T-06, owes nothing; what leads to it owes its claims as any other's.
use Prim.Native.Nat.{ℕ, zero, suc, ◌+◌, ◌*◌}
use Rattle.std.specs.Prelude.{Bool, ◌||◌, List, [], ◌∷◌, length, leb, eqb}
use Rattle.std.proofs.Math.Bool.{cond}
use Rattle.model.specs.Types.{Width, Table, Results, Operand, Instruction, Stop, Setc, Copy, Addw, Subw, Mulw, Divf, Load, Stor, Jump, Bltu, Bequ, Divm, Edge, DivisorMayBeZero, AccessMayLeave, ClaimMayFail, Judgement, accepted, Err, Verdict, Ok}
use Rattle.model.specs.Limits.{blank_variable, greatest_links, StripeLimits, today}
use Rattle.model.specs.Answers.{◌and_then◌}
use Rattle.model.specs.Facts.{Facts, facts_of, non_empty, lo, hi}
use Rattle.model.specs.Listing.{Point, is_empty, point_at, first_line, Listing, read_as, refused_listing, listing_within}
use Rattle.model.specs.Machine.{bytes_of, size_variable}
use Rattle.model.specs.Transfer.{edges, leads_to, operand_range, stripe, facts_along}
use Rattle.model.specs.Follows.{follows, lost_along}

-- the divisor is a number above 0, or its low end is at least 1
abbrev pub divisor_safe : Facts → Operand → Bool
divisor_safe f o = leb 1 (operand_range f.ranges o).lo

-- the access lies inside its table: a × hi(i) + k + w ≤ lo(size), or size − a × i ≥ k + w follows
abbrev pub access_safe : Facts → Table → Width → ℕ → ℕ → ℕ → Bool
access_safe f b w a i k =
    leb (a * hi f.ranges i + k + bytes_of w) (lo f.ranges (size_variable b))
    || follows f greatest_links (stripe (size_variable b) a i blank_variable (k + bytes_of w) 0)

-- 12 and 13: the point's own safety
unfoldable pub safety_judged : ℕ → Facts → Instruction → Judgement
unfolding follows
safety_judged l f Stop = accepted
safety_judged l f (Setc d c) = accepted
safety_judged l f (Copy d i) = accepted
safety_judged l f (Addw d i o) = accepted
safety_judged l f (Subw d i o) = accepted
safety_judged l f (Mulw d i o) = accepted
safety_judged l f (Divf d i o) = cond (divisor_safe f o) accepted (Err (DivisorMayBeZero l))
safety_judged l f (Load d w b a i k) = cond (access_safe f b w a i k) accepted (Err (AccessMayLeave l))
safety_judged l f (Stor v w a i k) = cond (access_safe f Results w a i k) accepted (Err (AccessMayLeave l))
safety_judged l f (Jump t) = accepted
safety_judged l f (Bltu i t o) = accepted
safety_judged l f (Bequ i t o) = accepted
safety_judged l f (Divm q i r o) = cond (divisor_safe f o) accepted (Err (DivisorMayBeZero l))

-- 14: the claims of a point q follow from what is known along an edge to it; l is the line of the instruction
abbrev pub claims_judged : ℕ → Facts → Point → Judgement
claims_judged l f q = let lost = lost_along f (first_line q) q.claims in cond (eqb lost 0) accepted (Err (ClaimMayFail l lost))

-- within these limits of scales and bounds
module _ (L : StripeLimits) where
  -- the same along each of some edges of q, the p-th point, in order
  abbrev pub edges_judged : List Point → ℕ → Point → List Edge → Judgement
  edges_judged ps p q [] = accepted
  edges_judged ps p q (e ∷ es) =
      claims_judged q.line (facts_along L e q.instruction (facts_of q.claims)) (point_at ps (leads_to p e)) and_then edges_judged ps p q es

  -- what q, the p-th point, owes if it is not empty, in order
  unfoldable pub owed_judged : List Point → ℕ → Point → Judgement
  unfolding safety_judged facts_of facts_along lost_along
  owed_judged ps p q = safety_judged q.line (facts_of q.claims) q.instruction and_then edges_judged ps p q (edges q.instruction)

  -- everything that q, the p-th point, owes; an empty point owes nothing
  unfoldable pub point_judged : List Point → ℕ → Point → Judgement
  unfolding facts_of non_empty owed_judged
  point_judged ps p q = cond (is_empty q) accepted (owed_judged ps p q)

  -- the first n points, in order
  unfoldable pub points_judged : List Point → ℕ → Judgement
  unfolding point_judged
  points_judged ps zero = accepted
  points_judged ps (suc n) = points_judged ps n and_then point_judged ps n (point_at ps n)

  -- 12 to 14 over all points of a listing that is read; one that is turned back by 1 to 11 or 19 stays so
  abbrev pub listing_judged_within : Listing → Judgement
  listing_judged_within (read_as ps) = points_judged ps (length ps)
  listing_judged_within (refused_listing r) = Err r

-- 12 to 14 within today's limits
abbrev pub listing_judged : Listing → Judgement
listing_judged l = listing_judged_within today l

-- the answer for n points and what became of their tests
abbrev pub verdict_from : ℕ → Judgement → Verdict
verdict_from n (Ok u) = Ok n
verdict_from n (Err r) = Err r

-- within these limits of scales and bounds
module _ (L : StripeLimits) where
  -- the answer for a listing that is read or turned back
  abbrev pub verdict_within : Listing → Verdict
  verdict_within (read_as ps) = verdict_from (length ps) (listing_judged_within L (read_as ps))
  verdict_within (refused_listing r) = Err r

  -- the checker's answer
  unfoldable pub check_within : List ℕ → Verdict
  unfolding listing_within points_judged
  check_within s = verdict_within (listing_within L s)

-- the checker's answer within today's limits; a listing is 'passed' if this turns it back by none of 1 to 14 and 19
abbrev pub check : List ℕ → Verdict
check s = check_within today s
