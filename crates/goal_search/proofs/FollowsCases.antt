-- The cases of `follows` and `by_link`, as the code meets them. Assumes nothing.
use Rattle.std.proofs.Common.{◌≡◌, refl, sym, ap, ◌∙◌, ℕ, zero, suc, ◌-◌, Bool, true, false, ◌||◌, List}
use Rattle.std.proofs.Math.Numerals.{sub-one}
use Rattle.std.proofs.Math.Bool.{or-false}
use native.Mathlib.Decide.{ℕ_discrete}
use lib.Dec.{eqb}
use borrow.Author.Tests.{eq-eqb, ne_eqb}
use Rattle.model.specs.declared.claims.Stripe.{Stripe}
use Rattle.model.specs.Lists.{some}
use Rattle.model.specs.Facts.{Facts}
use Rattle.model.specs.Follows as known
use Rattle.model.specs.Follows.{at_once, through_link, over_y, over_z}
use Rattle.model.proofs.Tests.{or-false as or-neither}
use Rattle.goal_search.specs.Goal.{by_link, by_some_link, follows}

-- by links that are given
module _ (once : Stripe → Bool) (links : List Stripe) (g : Stripe) where
  pub follows-once : (n : ℕ) → once g ≡ true → true ≡ follows once links n g
  unfolding follows
  follows-once zero e = sym e
  follows-once (suc n) e = sym (ap (λ (b : Bool). b || by_some_link (follows once links n) links g) e)

  pub follows-none : (n : ℕ) → n ≡ 0 → once g ≡ false → false ≡ follows once links n g
  unfolding follows
  follows-none n z e = rw z (sym e)

  pub follows-linked : (n : ℕ) → (n ≡ 0 → ⊥) → once g ≡ false → by_some_link (follows once links (n - 1)) links g ≡ follows once links n g
  unfolding follows
  follows-linked zero z e = absurd (z refl)
  follows-linked (suc n) z e = rw (sub-one (suc n)) (sym (ap (λ (b : Bool). b || by_some_link (follows once links n) links g) e))

-- by the links among the stripes
module _ (f : Facts) (g : Stripe) where
  pub facts-once : (n : ℕ) → at_once f g ≡ true → true ≡ known.follows f n g
  unfolding known.follows
  facts-once zero e = sym e
  facts-once (suc n) e = sym (ap (λ (b : Bool). b || some (through_link (known.follows f n) g) f.stripes) e)

  pub facts-none : (n : ℕ) → n ≡ 0 → at_once f g ≡ false → false ≡ known.follows f n g
  unfolding known.follows
  facts-none n z e = rw z (sym e)

  pub facts-linked : (n : ℕ) → (n ≡ 0 → ⊥) → at_once f g ≡ false → some (through_link (known.follows f (n - 1)) g) f.stripes ≡ known.follows f n g
  unfolding known.follows
  facts-linked zero z e = absurd (z refl)
  facts-linked (suc n) z e = rw (sub-one (suc n)) (sym (ap (λ (b : Bool). b || some (through_link (known.follows f n) g) f.stripes) e))

or_same : (b : Bool) → (b || b) ≡ b
or_same true = refl
or_same false = refl

-- where y is z, one of the two replacements is enough
pub by-y : (rest : Stripe → Bool) (g s : Stripe) → s.y ≡ g.y → (g.y ≡ g.z → rest (over_z s g) ≡ rest (over_y s g)) → rest (over_y s g) ≡ by_link rest g s
by-y rest g s e same = go (ℕ_discrete g.y g.z)
  where
    go : Dec (g.y ≡ g.z) → rest (over_y s g) ≡ by_link rest g s
    go (yes d) = sym (rw (eq-eqb s.y g.y e, eq-eqb s.y g.z (e ∙ d), same d) (or_same (rest (over_y s g))))
    go (no d) = sym (rw (eq-eqb s.y g.y e, ne_eqb s.y g.z (λ h. d (sym e ∙ h))) (or-false (rest (over_y s g))))

-- a link that replaces neither y nor z
pub untouched : (rest : Stripe → Bool) (g s : Stripe) → (eqb s.y g.y || eqb s.y g.z) ≡ false → by_link rest g s ≡ false
untouched rest g s e =
    let n = or-neither (eqb s.y g.y) (eqb s.y g.z) e in
    rw (n.0, n.1) refl
