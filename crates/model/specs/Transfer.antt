-- Document 01, 'What a step does to claims', with DIVF's range from document 02's T-02 and DIVM from its T-03: the ranges and the stripes along each edge of an instruction.
-- The new ends of all ranges are computed from the ends before the step. Ends are whole numbers, and of an empty range only its emptiness
-- counts: an edge with an empty range is impossible. A high end that falls below 0 is written as a range that holds nothing, or stands as
-- 0 where the low end is at least 1 already (`without`). Where i is o, the change of o acts on the range that the change of i has made; that
-- is the same as both at once, since the one moves the low end and the other the high end, and an overlap of a range with itself is the range.
-- A rule that asks for the limits of scales or bounds takes them first.
use Rattle.std.specs.Prelude.{ℕ, ◌+◌, ◌*◌, ◌-◌, ◌^◌, min, max, Bool, not, ◌&&◌, ◌||◌, cond, List, [], ◌∷◌, ◌++◌, map, set, leb, eqb}
use Rattle.model.specs.Types.{Operand, variable, number, Instruction, Stop, Setc, Copy, Addw, Subw, Mulw, Divf, Load, Stor, Jump, Bltu, Bequ, Divm, Edge, Next, Target, Range, Stripe}
use Rattle.model.specs.Limits.{MAX, blank_variable, StripeLimits}
use Rattle.model.specs.Lists.{kept}
use Rattle.model.specs.Facts.{between, exactly, register_range, Facts, range_of, non_empty}
use Rattle.model.specs.Instructions.{targets, goes_on}
use Rattle.model.specs.Machine.{bytes_of, quotient, nearest_quotient}

-- the edges of an instruction to its successors: to the next point, then to the target
abbrev pub edges : Instruction → List Edge
edges i = cond (goes_on i) (Next ∷ []) [] ++ map Target (targets i)

-- where an edge leads from point p
abbrev pub leads_to : ℕ → Edge → ℕ
leads_to p Next = p + 1
leads_to p (Target t) = t

-- ranges

-- a range that holds nothing
abbrev pub nothing : Range
nothing = between 1 0

-- the range of an operand; both ends of a number are the number
abbrev pub operand_range : List Range → Operand → Range
operand_range rs (variable v) = range_of rs v
operand_range rs (number c) = exactly c

-- ADDW: no sum of the two ranges wraps
abbrev pub sum_fits : Range → Range → Bool
sum_fits r q = leb (r.hi + q.hi) MAX

-- ADDW: ends added
abbrev pub sum_range : Range → Range → Range
sum_range r q = between (r.lo + q.lo) (r.hi + q.hi)

-- SUBW: no difference of the two ranges wraps
abbrev pub difference_fits : Range → Range → Bool
difference_fits r q = leb q.hi r.lo

-- SUBW: lo(i) − hi(o) to hi(i) − lo(o); nothing where the high end falls below 0. Both are exact: the rule asks for hi(o) ≤ lo(i), the test for lo(o) ≤ hi(i)
abbrev pub difference_range : Range → Range → Range
difference_range r q = cond (leb q.lo r.hi) (between (r.lo - q.hi) (r.hi - q.lo)) nothing

-- MULW: no product of the two ranges wraps
abbrev pub product_fits : Range → Range → Bool
product_fits r q = leb (r.hi * q.hi) MAX

-- MULW: ends multiplied
abbrev pub product_range : Range → Range → Range
product_range r q = between (r.lo * q.lo) (r.hi * q.hi)

-- DIVF: the nearest quotient of lo(i) by hi(o) to that of hi(i) by the larger of lo(o) and 1; nothing where hi(o) is 0
abbrev pub nearest_range : Range → Range → Range
nearest_range r q = cond (eqb q.hi 0) nothing (between (nearest_quotient r.lo q.hi) (nearest_quotient r.hi (max q.lo 1)))

-- the high end at most one less than e; nothing where that falls below 0
abbrev pub below : ℕ → Range → Range
below e r = cond (eqb e 0) nothing (between r.lo (min r.hi (e - 1)))

-- DIVM's quotient: lo(i) by hi(o) to hi(i) by the larger of lo(o) and 1, rounded down; nothing where hi(o) is 0
abbrev pub quotient_range : Range → Range → Range
quotient_range r q = cond (eqb q.hi 0) nothing (between (quotient r.lo q.hi) (quotient r.hi (max q.lo 1)))

-- DIVM's remainder: 0 to the smaller of hi(i) and hi(o) − 1; nothing where hi(o) is 0
abbrev pub remainder_range : Range → Range → Range
remainder_range r q = below q.hi (between 0 r.hi)

-- the low end at least e
abbrev pub at_least : ℕ → Range → Range
at_least e r = between (max r.lo e) r.hi

-- the high end at most e
abbrev pub at_most : ℕ → Range → Range
at_most e r = between r.lo (min r.hi e)

-- what two ranges share
abbrev pub overlap : Range → Range → Range
overlap r q = between (max r.lo q.lo) (min r.hi q.hi)

-- an end equal to c moved inward by 1; a high end of −1 may stand as 0, since the low end is then at least 1
abbrev pub without : ℕ → Range → Range
without c r = between (cond (eqb r.lo c) (c + 1) r.lo) (cond (eqb r.hi c) (c - 1) r.hi)

-- the range holds one value alone
abbrev pub has_one_value : Range → Bool
has_one_value r = eqb r.lo r.hi

-- one variable's range changed
abbrev pub changed : ℕ → (Range → Range) → List Range → List Range
changed v f rs = set rs v (f (range_of rs v))

-- an operand's range changed; for a number nothing changes
abbrev pub operand_changed : Operand → (Range → Range) → List Range → List Range
operand_changed (variable v) f rs = changed v f rs
operand_changed (number c) f rs = rs

-- BLTU taken: hi(i) at most hi(o) − 1, lo(o) at least lo(i) + 1
abbrev pub less_ranges : ℕ → Operand → List Range → List Range
less_ranges i o rs = operand_changed o (at_least ((range_of rs i).lo + 1)) (changed i (below (operand_range rs o).hi) rs)

-- BLTU not taken: lo(i) at least lo(o), hi(o) at most hi(i)
abbrev pub not_less_ranges : ℕ → Operand → List Range → List Range
not_less_ranges i o rs = operand_changed o (at_most (range_of rs i).hi) (changed i (at_least (operand_range rs o).lo) rs)

-- BEQU taken: both ranges become their overlap
abbrev pub equal_ranges : ℕ → Operand → List Range → List Range
equal_ranges i o rs = operand_changed o (overlap (range_of rs i)) (changed i (overlap (operand_range rs o)) rs)

-- BEQU not taken: an end of i equal to the one value of o moves inward
abbrev pub unequal_ranges : ℕ → Operand → List Range → List Range
unequal_ranges i o rs = cond (has_one_value (operand_range rs o)) (changed i (without (operand_range rs o).lo) rs) rs

-- the ranges along an edge of an instruction
unfoldable pub ranges_along : Edge → Instruction → List Range → List Range
ranges_along e Stop rs = rs
ranges_along e (Setc d c) rs = set rs d (exactly c)
ranges_along e (Copy d i) rs = set rs d (range_of rs i)
ranges_along e (Addw d i o) rs =
    set rs d (cond (sum_fits (range_of rs i) (operand_range rs o)) (sum_range (range_of rs i) (operand_range rs o)) register_range)
ranges_along e (Subw d i o) rs =
    set rs d (cond (difference_fits (range_of rs i) (operand_range rs o)) (difference_range (range_of rs i) (operand_range rs o)) register_range)
ranges_along e (Mulw d i o) rs =
    set rs d (cond (product_fits (range_of rs i) (operand_range rs o)) (product_range (range_of rs i) (operand_range rs o)) register_range)
ranges_along e (Divf d i o) rs = set rs d (nearest_range (range_of rs i) (operand_range rs o))
ranges_along e (Load d w b a i k) rs = set rs d (between 0 (256 ^ bytes_of w - 1))
ranges_along e (Stor v w a i k) rs = rs
ranges_along e (Jump t) rs = rs
ranges_along Next (Bltu i t o) rs = not_less_ranges i o rs
ranges_along (Target u) (Bltu i t o) rs = less_ranges i o rs
ranges_along Next (Bequ i t o) rs = unequal_ranges i o rs
ranges_along (Target u) (Bequ i t o) rs = equal_ranges i o rs
ranges_along e (Divm q i r o) rs =
    set (set rs q (quotient_range (range_of rs i) (operand_range rs o))) r (remainder_range (range_of rs i) (operand_range rs o))

-- stripes

-- the stripe names d
abbrev pub names : ℕ → Stripe → Bool
names d s = eqb s.x d || eqb s.y d || eqb s.z d

-- the stripes that do not name d
abbrev pub dropped : ℕ → List Stripe → List Stripe
dropped d ss = kept (λ (s : Stripe). not (names d s)) ss

-- the bound lies within its limits
abbrev pub bound_in_limits : StripeLimits → Stripe → Bool
bound_in_limits L s = leb s.plus (s.minus + L.bound) && leb s.minus (s.plus + L.bound)

-- n if v is d, else 0
abbrev pub if_is : ℕ → ℕ → ℕ → ℕ
if_is d v n = cond (eqb v d) n 0

-- the stripe once d has become d + up − down: b + c where x is d, less a × c for each of y, z that is d
abbrev pub shifted : ℕ → ℕ → ℕ → Stripe → Stripe
shifted d up down s = record {
  x = s.x;
  a = s.a;
  y = s.y;
  z = s.z;
  plus = s.plus + if_is d s.x up + s.a * (if_is d s.y down + if_is d s.z down);
  minus = s.minus + if_is d s.x down + s.a * (if_is d s.y up + if_is d s.z up);
}

-- all stripes shifted; one whose bound leaves its limits is dropped
abbrev pub all_shifted : StripeLimits → ℕ → ℕ → ℕ → List Stripe → List Stripe
all_shifted L d up down ss = kept (bound_in_limits L) (map (shifted d up down) ss)

-- the stripe x − a × (y + z) ≥ plus − minus
abbrev pub stripe : ℕ → ℕ → ℕ → ℕ → ℕ → ℕ → Stripe
stripe x a y z p m = record { x = x; a = a; y = y; z = z; plus = p; minus = m }

-- u − v ≥ plus − minus
abbrev pub apart : ℕ → ℕ → ℕ → ℕ → Stripe
apart u v p m = stripe u 1 v blank_variable p m

-- d = i + up − down for a number: both ways round, or all stripes shifted where d is i
abbrev pub by_number : StripeLimits → ℕ → ℕ → ℕ → ℕ → List Stripe → List Stripe
by_number L d i up down ss = cond (eqb d i) (all_shifted L d up down ss) (apart d i up down ∷ apart i d down up ∷ dropped d ss)

-- ADDW where nothing wraps: by a number, or d − (i + o) ≥ 0
abbrev pub sum_stripes : StripeLimits → ℕ → ℕ → Operand → List Stripe → List Stripe
sum_stripes L d i (variable o) ss = cond (eqb d i || eqb d o) (dropped d ss) (stripe d 1 i o 0 0 ∷ dropped d ss)
sum_stripes L d i (number c) ss = by_number L d i c 0 ss

-- SUBW where nothing wraps: by a number, or i − (d + o) ≥ 0
abbrev pub difference_stripes : StripeLimits → ℕ → ℕ → Operand → List Stripe → List Stripe
difference_stripes L d i (variable o) ss = cond (eqb d i || eqb d o) (dropped d ss) (stripe i 1 d o 0 0 ∷ dropped d ss)
difference_stripes L d i (number c) ss = by_number L d i 0 c ss

-- MULW where nothing wraps: d − c × i ≥ 0 for a number c that can be a scale
abbrev pub product_stripes : StripeLimits → ℕ → ℕ → Operand → List Stripe → List Stripe
product_stripes L d i (variable o) ss = dropped d ss
product_stripes L d i (number c) ss =
    cond (leb 1 c && leb c L.scale && not (eqb d i)) (stripe d c i blank_variable 0 0 ∷ dropped d ss) (dropped d ss)

-- BLTU taken: o − i ≥ 1
abbrev pub less_stripes : ℕ → Operand → List Stripe → List Stripe
less_stripes i (variable o) ss = apart o i 1 0 ∷ ss
less_stripes i (number c) ss = ss

-- BLTU not taken: i − o ≥ 0
abbrev pub not_less_stripes : ℕ → Operand → List Stripe → List Stripe
not_less_stripes i (variable o) ss = apart i o 0 0 ∷ ss
not_less_stripes i (number c) ss = ss

-- BEQU taken: o − i ≥ 0 and i − o ≥ 0
abbrev pub equal_stripes : ℕ → Operand → List Stripe → List Stripe
equal_stripes i (variable o) ss = apart o i 0 0 ∷ apart i o 0 0 ∷ ss
equal_stripes i (number c) ss = ss

-- the stripes along an edge of an instruction, with the ranges before the step
unfoldable pub stripes_along : StripeLimits → Edge → Instruction → List Range → List Stripe → List Stripe
unfolding kept
stripes_along L e Stop rs ss = ss
stripes_along L e (Setc d c) rs ss = dropped d ss
stripes_along L e (Copy d i) rs ss = cond (eqb d i) ss (apart d i 0 0 ∷ apart i d 0 0 ∷ dropped d ss)
stripes_along L e (Addw d i o) rs ss = cond (sum_fits (range_of rs i) (operand_range rs o)) (sum_stripes L d i o ss) (dropped d ss)
stripes_along L e (Subw d i o) rs ss =
    cond (difference_fits (range_of rs i) (operand_range rs o)) (difference_stripes L d i o ss) (dropped d ss)
stripes_along L e (Mulw d i o) rs ss = cond (product_fits (range_of rs i) (operand_range rs o)) (product_stripes L d i o ss) (dropped d ss)
stripes_along L e (Divf d i o) rs ss = dropped d ss
stripes_along L e (Load d w b a i k) rs ss = dropped d ss
stripes_along L e (Stor v w a i k) rs ss = ss
stripes_along L e (Jump t) rs ss = ss
stripes_along L Next (Bltu i t o) rs ss = not_less_stripes i o ss
stripes_along L (Target u) (Bltu i t o) rs ss = less_stripes i o ss
stripes_along L Next (Bequ i t o) rs ss = ss
stripes_along L (Target u) (Bequ i t o) rs ss = equal_stripes i o ss
stripes_along L e (Divm q i r o) rs ss = dropped r (dropped q ss)

-- what is known along an edge
unfoldable pub facts_along : StripeLimits → Edge → Instruction → Facts → Facts
unfolding ranges_along stripes_along
facts_along L e i f = record { ranges = ranges_along e i f.ranges; stripes = stripes_along L e i f.ranges f.stripes }

-- an edge is 'impossible' if a range along it is empty, else possible
abbrev pub possible : Facts → Bool
possible f = non_empty f.ranges
