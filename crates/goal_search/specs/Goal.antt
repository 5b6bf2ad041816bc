-- Whether a goal follows by links that are given: any stripes, each used as a link whatever its scale and z.
-- Where they are those among the stripes, `Follows` of the model says the same.
use Rattle.std.specs.Prelude.{ℕ, zero, suc, Bool, ◌&&◌, ◌||◌, List, eqb}
use Rattle.model.specs.declared.claims.Stripe.{Stripe}
use Rattle.model.specs.Lists.{some}
use Rattle.model.specs.Follows.{over_y, over_z}

-- one use of the link s, the new goal tested by rest
abbrev pub by_link : (Stripe → Bool) → Stripe → Stripe → Bool
by_link rest g s = eqb s.y g.y && rest (over_y s g) || eqb s.y g.z && rest (over_z s g)

-- one use of one of the links
abbrev pub by_some_link : (Stripe → Bool) → List Stripe → Stripe → Bool
by_some_link rest links g = some (by_link rest g) links

-- the goal follows within n links, where once is the test with none
unfoldable pub follows : (Stripe → Bool) → List Stripe → ℕ → Stripe → Bool
follows once links zero g = once g
follows once links (suc n) g = once g || by_some_link (follows once links n) links g
