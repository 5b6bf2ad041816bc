-- By the links among the stripes a goal follows where it follows from the facts. Assumes nothing.
use Rattle.std.proofs.Common.{◌≡◌, refl, ap, ◌∙◌, ℕ, zero, suc, Bool, ◌||◌, List}
use Rattle.model.specs.declared.claims.Stripe.{Stripe}
use Rattle.model.specs.Lists.{some, kept}
use Rattle.model.specs.Facts.{Facts}
use Rattle.model.specs.Follows as known
use Rattle.model.specs.Follows.{at_once, is_link, through_link, over_y, over_z}
use Rattle.edge_links.specs.Links.{Gathered}
use Rattle.goal_search.specs.Goal as listed
use Rattle.goal_search.specs.Goal.{by_link, by_some_link}
use Rattle.goal_search.proofs.SomeElement.{some-same, some-kept}
use Rattle.goal_search.proofs.SmallerBounds.{link-lasting}

module _ (f : Facts) (links : List Stripe) (gathered : Gathered links f.stripes) where
  pub follows-agrees : (n : ℕ) (g : Stripe) → listed.follows (at_once f) links n g ≡ known.follows f n g
  unfolding listed.follows known.follows
  follows-agrees zero g = refl
  follows-agrees (suc n) g =
      let old : Stripe → Bool = listed.follows (at_once f) links n in
      let new : Stripe → Bool = known.follows f n in
      let same : by_some_link old links g ≡ some (through_link new g) f.stripes =
      some-same (by_link old g) (by_link new g) (λ s. rw (follows-agrees n (over_y s g), follows-agrees n (over_z s g)) refl) links
      ∙ gathered (by_link new g) (link-lasting f n g) in
      ap (λ (b : Bool). at_once f g || b) same

-- all of them
pub all-gathered : (ss : List Stripe) → Gathered (kept is_link ss) ss
all-gathered ss p lasting = some-kept p is_link ss
