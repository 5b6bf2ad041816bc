-- Document 01, 'What a step does to claims': when a claim follows from what is known.
-- A link only adds: the bound b − a × m of the new goal is plus + a × m's minus, less minus + a × m's plus. A goal's bound has no limits.
use Rattle.std.specs.Prelude.{ℕ, zero, suc, ◌+◌, ◌*◌, Bool, true, ◌&&◌, ◌||◌, cond, List, [], ◌∷◌, leb, eqb}
use Rattle.model.specs.Types.{Range, Stripe, Claim, Leas, Most, Strp, Turn}
use Rattle.model.specs.Limits.{blank_variable, greatest_links}
use Rattle.model.specs.Lists.{some}
use Rattle.model.specs.Facts.{Facts, lo, hi}
use Rattle.model.specs.Transfer.{possible}

-- the ranges alone show the goal: lo(x) − a × (hi(y) + hi(z)) ≥ b
abbrev pub by_ranges : List Range → Stripe → Bool
by_ranges rs g = leb (g.a * (hi rs g.y + hi rs g.z) + g.plus) (lo rs g.x + g.minus)

-- equal in x and a, and in the pair of y and z, exchanged or not
abbrev pub same_sides : Stripe → Stripe → Bool
same_sides s g =
    eqb s.x g.x && eqb s.a g.a
    && (eqb s.y g.y && eqb s.z g.z || eqb s.y g.z && eqb s.z g.y)

-- the stripe stands for the goal, with a bound of at least the goal's
abbrev pub covers : Stripe → Stripe → Bool
covers s g = same_sides s g && leb (g.plus + s.minus) (s.plus + g.minus)

-- the goal follows with no link
abbrev pub at_once : Facts → Stripe → Bool
at_once f g = by_ranges f.ranges g || some (λ (s : Stripe). covers s g) f.stripes

-- a stripe that can be a 'link': u − 1 × v ≥ m with no z
abbrev pub is_link : Stripe → Bool
is_link s = eqb s.a 1 && eqb s.z blank_variable

-- one link over y: y replaced by the link's u, and b by b − a × m
abbrev pub over_y : Stripe → Stripe → Stripe
over_y s g = record { x = g.x; a = g.a; y = s.x; z = g.z; plus = g.plus + g.a * s.minus; minus = g.minus + g.a * s.plus }

-- one link over z: z replaced by the link's u, and b by b − a × m
abbrev pub over_z : Stripe → Stripe → Stripe
over_z s g = record { x = g.x; a = g.a; y = g.y; z = s.x; plus = g.plus + g.a * s.minus; minus = g.minus + g.a * s.plus }

-- one link through the stripe s, the new goal tested by rest
abbrev pub through_link : (Stripe → Bool) → Stripe → Stripe → Bool
through_link rest g s = is_link s && (eqb s.y g.y && rest (over_y s g) || eqb s.y g.z && rest (over_z s g))

-- the goal 'follows' within n links; their number falls at each use
unfoldable pub follows : Facts → ℕ → Stripe → Bool
unfolding some
follows f zero g = at_once f g
follows f (suc n) g = at_once f g || some (through_link (follows f n) g) f.stripes

-- a claim follows
unfoldable pub claim_follows : Facts → Claim → Bool
unfolding follows
claim_follows f (Leas v n) = leb n (lo f.ranges v)
claim_follows f (Most v n) = leb (hi f.ranges v) n
claim_follows f (Strp g) = follows f greatest_links g
claim_follows f (Turn r) = true

-- of claims on successive lines from line n on, the line of the first that does not follow; 0 where all do
unfoldable pub first_lost : Facts → ℕ → List Claim → ℕ
unfolding claim_follows
first_lost f n [] = 0
first_lost f n (c ∷ cs) = cond (claim_follows f c) (first_lost f (n + 1) cs) n

-- the same along an edge: where it is impossible every claim follows
unfoldable pub lost_along : Facts → ℕ → List Claim → ℕ
unfolding first_lost
lost_along f n cs = cond (possible f) (first_lost f n cs) 0
