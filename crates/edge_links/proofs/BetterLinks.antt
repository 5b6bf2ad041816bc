-- What a link that is added shows to a test that a better link passes too. Assumes nothing.
use Rattle.std.proofs.Common.{Some, position, ◌≡◌, refl, ap, sym, ◌∙◌, ℕ, zero, suc, ◌+◌, ◌<◌, Bool, true, false, ◌&&◌, ◌||◌, List, [], ◌∷◌, ◌++◌, length, get_or, set, arith}
use Rattle.std.proofs.Math.Bool.{or-false, or_assoc, or_comm, false≢true}
use Rattle.std.proofs.lemmas.List.Quantifiers.{position-Some}
use borrow.Author.Tests.{leb-true, leb-false, eqb-true}
use lib.Dec.{leb, eqb}
use Rattle.model.specs.declared.claims.Stripe.{Stripe}
use Rattle.model.specs.Lists.{some}
use Rattle.model.specs.Follows.{is_link}
use Rattle.model.proofs.Tests.{and_left, and_right}
use Rattle.edge_links.specs.Links.{between, Added, Gathered}

-- what shows a test adds to it nothing
or-shown : (a b c : Bool) → (c ≡ true → a ≡ true) → (a || b) ≡ ((a || b) || c)
or-shown true b c f = refl
or-shown false b false f = sym (or-false b)
or-shown false b true f = absurd (false≢true (f refl))

-- a test that another shows, in its place
or-showing : (a b c : Bool) → (a ≡ true → c ≡ true) → (c || b) ≡ ((a || b) || c)
or-showing true b true f = refl
or-showing true b false f = absurd (false≢true (f refl))
or-showing false b c f = or_comm c b

module _ {A : Type 0} (p : A → Bool) where
  -- one more element
  pub some-more : (xs : List A) (x : A) → some p (xs ++ (x ∷ [])) ≡ (some p xs || p x)
  unfolding some
  some-more [] x = or-false (p x)
  some-more (y ∷ xs) x = ap (λ (b : Bool). p y || b) (some-more xs x) ∙ sym (or_assoc (p y) (some p xs) (p x))

  -- an element that shows nothing more than another
  pub some-shown : (xs : List A) (i : ℕ) (d x : A) → i < length xs → (p x ≡ true → p (get_or xs i d) ≡ true) → some p xs ≡ (some p xs || p x)
  unfolding some
  some-shown [] i d x h f = absurd (omega arith)
  some-shown (y ∷ xs) zero d x h f = or-shown (p y) (some p xs) (p x) f
  some-shown (y ∷ xs) (suc i) d x h f = ap (λ (b : Bool). p y || b) (some-shown xs i d x (omega arith) f) ∙ sym (or_assoc (p y) (some p xs) (p x))

  -- an element in the place of one that shows nothing more
  pub some-set : (xs : List A) (i : ℕ) (d x : A) → i < length xs → (p (get_or xs i d) ≡ true → p x ≡ true) → some p (set xs i x) ≡ (some p xs || p x)
  unfolding some
  some-set [] i d x h f = absurd (omega arith)
  some-set (y ∷ xs) zero d x h f = or-showing (p y) (some p xs) (p x) f
  some-set (y ∷ xs) (suc i) d x h f = ap (λ (b : Bool). p y || b) (some-set xs i d x (omega arith) f) ∙ sym (or_assoc (p y) (some p xs) (p x))

-- the i-th link stands between the variables of s
module _ (links : List Stripe) (s d : Stripe) (i : ℕ) (found : position (between s) links ≡ Some i) where
  abbrev t : Stripe
  t = get_or links i d

  inside : i < length links
  inside = (position-Some (between s) links i d found).0

  same : between s t ≡ true
  same = (position-Some (between s) links i d found).1

  x : t.x ≡ s.x
  x = eqb-true t.x s.x (and_left (eqb t.x s.x) (eqb t.y s.y) same)

  y : t.y ≡ s.y
  y = eqb-true t.y s.y (and_right (eqb t.x s.x) (eqb t.y s.y) same)

  -- it is enough
  pub left-out : leb (s.plus + t.minus) (t.plus + s.minus) ≡ true → Added links links s
  left-out e p lasting = some-shown p links i d s inside (lasting s t (record { x = x; y = y; bound = leb-true _ _ e }))

  -- s is better
  pub replaced : leb (s.plus + t.minus) (t.plus + s.minus) ≡ false → Added (set links i s) links s
  replaced e p lasting =
      let worse : t.plus + s.minus < s.plus + t.minus = leb-false _ _ e in
      some-set p links i d s inside (lasting t s (record { x = sym x; y = sym y; bound = omega arith }))

-- one more stripe
module _ (links ss : List Stripe) (s : Stripe) (gathered : Gathered links ss) where
  pub gathered-passed : is_link s ≡ false → Gathered links (ss ++ (s ∷ []))
  gathered-passed e p lasting =
      let q : Stripe → Bool = λ (t : Stripe). is_link t && p t in
      gathered p lasting ∙ sym (some-more q ss s ∙ ap (λ (b : Bool). some q ss || (b && p s)) e ∙ or-false (some q ss))

  pub gathered-added : (new : List Stripe) → is_link s ≡ true → Added new links s → Gathered new (ss ++ (s ∷ []))
  gathered-added new e added p lasting =
      let q : Stripe → Bool = λ (t : Stripe). is_link t && p t in
      added p lasting ∙ ap (λ (b : Bool). b || p s) (gathered p lasting) ∙ sym (some-more q ss s ∙ ap (λ (b : Bool). some q ss || (b && p s)) e)
