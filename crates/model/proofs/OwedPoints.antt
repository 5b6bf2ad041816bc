-- What a point owes, by whether it is empty, and points that cannot be. Assumes nothing.
use Prim.Native.Nat.{ℕ, ◌+◌, ◌≤◌}
use mathlib.Core.Path.{◌≡◌, refl, sym, ap, ◌∙◌}
use mathlib.Core.Bool.{Bool, true, false, not, cond}
use mathlib.Core.List.{List, [], ◌∷◌}
use native.Mathlib.Nat.{zero-add}
use native.Mathlib.Omega.{arith}
use lib.ListN.{length, length-append}
use Rattle.model.specs.Types.{Range, Claim, Leas, Most, Strp, Turn, accepted}
use Rattle.model.specs.Limits.{today}
use Rattle.model.specs.Lists.{every_below}
use Rattle.model.specs.Facts.{Facts, unclaimed, with_claim, with_claims, facts_of, non_empty}
use Rattle.model.specs.Listing.{Point, is_empty}
use Rattle.model.specs.Check.{owed_judged, point_judged}

module _ (ps : List Point) (p : ℕ) (q : Point) where
  pub owes_nothing : is_empty q ≡ true → point_judged today ps p q ≡ accepted
  unfolding point_judged
  owes_nothing e = ap (λ (b : Bool). cond b accepted (owed_judged today ps p q)) e

  pub owes : is_empty q ≡ false → point_judged today ps p q ≡ owed_judged today ps p q
  unfolding point_judged
  owes e = ap (λ (b : Bool). cond b accepted (owed_judged today ps p q)) e

-- a claim adds at most one stripe
stripes-few : (f : Facts) (cs : List Claim) → length (with_claims f cs).stripes ≤ length f.stripes + length cs
stripes-few f [] = omega arith
stripes-few f (Leas v n ∷ cs) = let few = stripes-few (with_claim f (Leas v n)) cs in omega arith
stripes-few f (Most v n ∷ cs) = let few = stripes-few (with_claim f (Most v n)) cs in omega arith
stripes-few f (Strp s ∷ cs) = let few = stripes-few (with_claim f (Strp s)) cs in omega (arith, length-append f.stripes (s ∷ []))
stripes-few f (Turn r ∷ cs) = let few = stripes-few f cs in omega arith

-- claims that are all stripes change no range
same-ranges : (f : Facts) (cs : List Claim) → length (with_claims f cs).stripes ≡ length f.stripes + length cs → (with_claims f cs).ranges ≡ f.ranges
same-ranges f [] e = refl
same-ranges f (Leas v n ∷ cs) e = let few = stripes-few (with_claim f (Leas v n)) cs in absurd (omega arith)
same-ranges f (Most v n ∷ cs) e = let few = stripes-few (with_claim f (Most v n)) cs in absurd (omega arith)
same-ranges f (Strp s ∷ cs) e = same-ranges (with_claim f (Strp s)) cs (omega (arith, length-append f.stripes (s ∷ [])))
same-ranges f (Turn r ∷ cs) e = let few = stripes-few f cs in absurd (omega arith)

unclaimed-values : non_empty unclaimed.ranges ≡ true
unfolding non_empty every_below
unclaimed-values = refl

-- a point whose claims are all stripes is not empty
pub stripes-alone : (q : Point) → length (facts_of q.claims).stripes ≡ length q.claims → is_empty q ≡ false
unfolding facts_of
stripes-alone q e = ap (λ (rs : List Range). not (non_empty rs)) (same-ranges unclaimed q.claims (e ∙ sym (zero-add (length q.claims)))) ∙ ap not unclaimed-values
