-- Document 01, 'Claims': ranges and stripes, what is known at a point, and when values meet it.
-- A bound b is two naturals, b = plus - minus, so that a stripe x - a * (y + z) ≥ b reads a * (y + z) + plus ≤ x + minus.
use Rattle.std.specs.Prelude.{ℕ, zero, suc, ◌+◌, ◌*◌, Bool, ◌&&◌, cond, List, [], ◌∷◌, ◌++◌, get_or, set, leb, ltb}
use Rattle.model.specs.Types.{Range, Stripe, Claim, Leas, Most, Strp, Turn}
use Rattle.model.specs.Limits.{registers, variables, MAX, greatest_size}
use Rattle.model.specs.Lists.{every_below, every}

-- the range from one number to another
abbrev pub between : ℕ → ℕ → Range
between l h = record { lo = l; hi = h }

-- the range of one number
abbrev pub exactly : ℕ → Range
exactly c = between c c

-- the unclaimed range of a register
abbrev pub register_range : Range
register_range = between 0 MAX

-- the unclaimed range of a size
abbrev pub size_range : Range
size_range = between 0 greatest_size

-- the unclaimed range of a variable
abbrev pub unclaimed_range : ℕ → Range
unclaimed_range v = cond (ltb v registers) register_range size_range

-- what is known at a point or along an edge: a range for each variable, and stripes
pub record Facts : Type 0 where
  pub ranges : List Range
  pub stripes : List Stripe

-- the unclaimed ranges of the first n variables
abbrev pub unclaimed_ranges : ℕ → List Range
unclaimed_ranges zero = []
unclaimed_ranges (suc n) = unclaimed_ranges n ++ (unclaimed_range n ∷ [])

-- nothing claimed
abbrev pub unclaimed : Facts
unclaimed = record { ranges = unclaimed_ranges variables; stripes = [] }

-- the range of a variable; the blank variable is exactly 0
abbrev pub range_of : List Range → ℕ → Range
range_of rs v = get_or rs v (exactly 0)

-- the low end of a variable
abbrev pub lo : List Range → ℕ → ℕ
lo rs v = (range_of rs v).lo

-- the high end of a variable
abbrev pub hi : List Range → ℕ → ℕ
hi rs v = (range_of rs v).hi

-- one claim more; TURN claims nothing
abbrev pub with_claim : Facts → Claim → Facts
with_claim f (Leas v n) = record { ranges = set f.ranges v (between n (hi f.ranges v)); stripes = f.stripes }
with_claim f (Most v n) = record { ranges = set f.ranges v (between (lo f.ranges v) n); stripes = f.stripes }
with_claim f (Strp s) = record { ranges = f.ranges; stripes = f.stripes ++ (s ∷ []) }
with_claim f (Turn r) = f

-- the facts with the claims added in order
abbrev pub with_claims : Facts → List Claim → Facts
with_claims f [] = f
with_claims f (c ∷ cs) = with_claims (with_claim f c) cs

-- the facts that the claims of a point state
unfoldable pub facts_of : List Claim → Facts
facts_of cs = with_claims unclaimed cs

-- every variable's range has a value
unfoldable pub non_empty : List Range → Bool
unfolding every_below
non_empty rs = every_below (λ (v : ℕ). leb (lo rs v) (hi rs v)) variables

-- the value lies in the range
abbrev pub in_range : ℕ → Range → Bool
in_range n r = leb r.lo n && leb n r.hi

-- the value of a variable among the values of all; of the blank variable, 0
abbrev pub value_at : List ℕ → ℕ → ℕ
value_at vs v = get_or vs v 0

-- the stripe holds of the values
abbrev pub stripe_holds : List ℕ → Stripe → Bool
stripe_holds vs s = leb (s.a * (value_at vs s.y + value_at vs s.z) + s.plus) (value_at vs s.x + s.minus)

-- the values meet the facts: every variable lies in its range, and every stripe holds
unfoldable pub meets : List ℕ → Facts → Bool
unfolding every_below every
meets vs f = every_below (λ (v : ℕ). in_range (value_at vs v) (range_of f.ranges v)) variables && every (stripe_holds vs) f.stripes
