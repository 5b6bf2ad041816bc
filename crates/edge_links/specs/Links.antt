-- The links among some stripes. Of two links between the same variables only the better one is kept: a goal that follows by the other follows by it.
use Rattle.std.specs.Prelude.{◌+◌, ◌≤◌, ◌≡◌, Bool, true, ◌&&◌, ◌||◌, List, eqb}
use Rattle.model.specs.declared.claims.Stripe.{Stripe}
use Rattle.model.specs.Lists.{some}
use Rattle.model.specs.Follows.{is_link}

-- t stands between the same variables as s
abbrev pub between : Stripe → Stripe → Bool
between s t = eqb t.x s.x && eqb t.y s.y

-- t says of the same variables at least what s says
pub record Better (t s : Stripe) : Type 0 where
  pub x : t.x ≡ s.x
  pub y : t.y ≡ s.y
  pub bound : s.plus + t.minus ≤ t.plus + s.minus

-- a test of links that a better link passes too
abbrev pub Lasting : (Stripe → Bool) → Type 0
Lasting p = (s t : Stripe) → Better t s → p s ≡ true → p t ≡ true

-- to a lasting test, the new links are the old ones and s
abbrev pub Added : List Stripe → List Stripe → Stripe → Type 0
Added new old s = (p : Stripe → Bool) → Lasting p → some p new ≡ (some p old || p s)

-- the links kept are the links among the stripes: no lasting test tells them apart
abbrev pub Gathered : List Stripe → List Stripe → Type 0
Gathered links ss = (p : Stripe → Bool) → Lasting p → some p links ≡ some (λ (s : Stripe). is_link s && p s) ss
