-- Whether some element of a list passes a test. Assumes nothing.
use Rattle.std.proofs.Common.{◌≡◌, refl, ap, ap₂, ℕ, zero, suc, ◌+◌, ◌<◌, ◌≤◌, Bool, true, false, ◌&&◌, ◌||◌, cond, List, [], ◌∷◌, length, take, get_or, arith}
use Rattle.std.proofs.lemmas.List.{take_more, take_all}
use Rattle.std.specs.List.{list_any}
use Rattle.model.specs.Lists.{some, kept}
use Rattle.model.proofs.Tests.{or_cases, or-first, or-true}
use Rattle.edge_links.proofs.BetterLinks.{some-more}

module _ {A : Type 0} where
  -- the library's word for it
  pub any-some : (p : A → Bool) (xs : List A) → list_any p xs ≡ some p xs
  unfolding some
  any-some p [] = refl
  any-some p (x ∷ xs) = ap (λ (b : Bool). p x || b) (any-some p xs)

  -- two tests that agree
  pub some-same : (p q : A → Bool) → ((x : A) → p x ≡ q x) → (xs : List A) → some p xs ≡ some q xs
  unfolding some
  some-same p q f [] = refl
  some-same p q f (x ∷ xs) = ap₂ ◌||◌ (f x) (some-same p q f xs)

  -- a weaker test finds an element too
  pub some-weaker : (p q : A → Bool) → ((x : A) → p x ≡ true → q x ≡ true) → (xs : List A) → some p xs ≡ true → some q xs ≡ true
  unfolding some
  some-weaker p q f [] e = e
  some-weaker p q f (x ∷ xs) e =
      or_cases (p x) (some p xs) e (λ h. or-first (q x) (some q xs) (f x h)) (λ h. or-true (q x) (some-weaker p q f xs h))

  -- a test of the elements that are kept
  pub some-kept : (p q : A → Bool) (xs : List A) → some p (kept q xs) ≡ some (λ (x : A). q x && p x) xs
  unfolding some kept
  some-kept p q [] = refl
  some-kept p q (x ∷ xs) = go (q x) (some-kept p q xs)
    where
      go : (b : Bool) → some p (kept q xs) ≡ some (λ (t : A). q t && p t) xs → some p (cond b (x ∷ kept q xs) (kept q xs)) ≡ (b && p x || some (λ (t : A). q t && p t) xs)
      go true e = ap (λ (b : Bool). p x || b) e
      go false e = e

  -- an element that passes is found
  pub some-hit : (p : A → Bool) (xs : List A) (i : ℕ) (d : A) → i < length xs → p (get_or xs i d) ≡ true → some p xs ≡ true
  unfolding some
  some-hit p [] i d h e = absurd (omega arith)
  some-hit p (x ∷ xs) zero d h e = or-first (p x) (some p xs) e
  some-hit p (x ∷ xs) (suc i) d h e = or-true (p x) (some-hit p xs i d (omega arith) e)

  -- one more element that fails
  pub some-missed : (p : A → Bool) (xs : List A) (i : ℕ) (d : A) → i < length xs → some p (take i xs) ≡ false → p (get_or xs i d) ≡ false → some p (take (i + 1) xs) ≡ false
  some-missed p xs i d h e f = rw (take_more xs i d h, some-more p (take i xs) (get_or xs i d), e) f

  -- none of all passes
  pub some-none : (p : A → Bool) (xs : List A) (i : ℕ) → length xs ≤ i → some p (take i xs) ≡ false → some p xs ≡ false
  some-none p xs i h e = rw (take_all i xs h) at e
