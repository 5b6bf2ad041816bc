-- Whether a goal follows does not depend on the order of its y and z. Assumes nothing.
use Rattle.std.proofs.Common.{◌≡◌, refl, ap, sym, ◌∙◌, ℕ, zero, suc, ◌+◌, ◌*◌, Bool, ◌&&◌, List}
use Rattle.std.proofs.Math.Nat.{add_comm}
use Rattle.std.proofs.Math.Bool.{or_comm}
use lib.Dec.{eqb, leb}
use Rattle.model.specs.declared.claims.Stripe.{Stripe}
use Rattle.model.specs.Lists.{kept}
use Rattle.model.specs.Facts.{Facts, hi}
use Rattle.model.specs.Transfer.{stripe}
use Rattle.model.specs.Follows as known
use Rattle.model.specs.Follows.{covers, is_link, at_once, over_y, over_z}
use Rattle.goal_search.specs.Goal.{by_link, by_some_link, follows}
use Rattle.goal_search.proofs.SomeElement.{some-same}
use Rattle.goal_search.proofs.GatheredLinks.{follows-agrees, all-gathered}

-- the test does not see the order
abbrev pub Turns : (Stripe → Bool) → ℕ → ℕ → Type 0
Turns once x a = (y z p m : ℕ) → once (stripe x a y z p m) ≡ once (stripe x a z y p m)

module _ (x a : ℕ) where
  covers-turned : (s : Stripe) (y z p m : ℕ) → covers s (stripe x a y z p m) ≡ covers s (stripe x a z y p m)
  covers-turned s y z p m =
      ap (λ (b : Bool). eqb s.x x && eqb s.a a && b && leb (p + s.minus) (s.plus + m)) (or_comm (eqb s.y y && eqb s.z z) (eqb s.y z && eqb s.z y))

  pub once-turned : (f : Facts) → Turns (at_once f) x a
  once-turned f y z p m =
      rw (add_comm (hi f.ranges y) (hi f.ranges z), some-same (λ (s : Stripe). covers s (stripe x a y z p m)) (λ (s : Stripe). covers s (stripe x a z y p m)) (λ s. covers-turned s y z p m) f.stripes) refl

  -- by links that are given
  module _ (once : Stripe → Bool) (turns : Turns once x a) (links : List Stripe) where
    pub follows-turned : (n : ℕ) → Turns (follows once links n) x a
    unfolding follows
    follows-turned zero y z p m = turns y z p m
    follows-turned (suc n) y z p m =
        let old = stripe x a y z p m in
        let new = stripe x a z y p m in
        let rest : Stripe → Bool = follows once links n in
        let same : by_some_link rest links old ≡ by_some_link rest links new =
        some-same (by_link rest old) (by_link rest new)
        (λ s.
        let p' : ℕ = p + a * s.minus in
        let m' : ℕ = m + a * s.plus in
        rw (follows-turned n s.x z p' m', follows-turned n y s.x p' m')
        (or_comm (eqb s.y y && rest (stripe x a z s.x p' m')) (eqb s.y z && rest (stripe x a s.x y p' m')))) links in
        rw (turns y z p m, same) refl

-- by the links among the stripes
pub facts-turned : (f : Facts) (x a n : ℕ) (y z p m : ℕ) → known.follows f n (stripe x a y z p m) ≡ known.follows f n (stripe x a z y p m)
facts-turned f x a n y z p m =
    let links : List Stripe = kept is_link f.stripes in
    let agrees = follows-agrees f links (all-gathered f.stripes) n in
    sym (agrees (stripe x a y z p m)) ∙ follows-turned x a (at_once f) (once-turned x a f) links n y z p m ∙ agrees (stripe x a z y p m)

-- where y is z, the goals with one of the two replaced differ in the order of y and z alone
pub either-place : (rest : Stripe → Bool) (g s : Stripe) → Turns rest g.x g.a → g.y ≡ g.z → rest (over_z s g) ≡ rest (over_y s g)
either-place rest g s turns e = turns g.y s.x (g.plus + g.a * s.minus) (g.minus + g.a * s.plus) ∙ ap (λ (v : ℕ). rest (stripe g.x g.a s.x v (g.plus + g.a * s.minus) (g.minus + g.a * s.plus))) e

-- the same of what follows from the facts
pub facts-either-place : (f : Facts) (n : ℕ) (g s : Stripe) → g.y ≡ g.z → known.follows f n (over_z s g) ≡ known.follows f n (over_y s g)
facts-either-place f n g s e = either-place (known.follows f n) g s (facts-turned f g.x g.a n) e
