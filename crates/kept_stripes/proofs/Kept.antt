-- What a loop keeps of one element more. Assumes nothing.
use Rattle.std.proofs.Common.{◌≡◌, refl, sym, ap, ◌∙◌, append-nil, append_assoc, ℕ, ◌+◌, ◌<◌, Bool, true, false, not, ◌||◌, cond, List, [], ◌∷◌, ◌++◌, length, take, get_or, map, filter}
use Rattle.std.proofs.lemmas.List.{take-map, get_or-map, length-map}
use Rattle.std.proofs.lemmas.List.Elements.{filter_more}
use Rattle.model.specs.Lists.{kept}

module _ {A : Type 0} where
  -- the library's word for it
  kept-filter : (p : A → Bool) (xs : List A) → kept p xs ≡ filter p xs
  unfolding kept
  kept-filter p [] = refl
  kept-filter p (x ∷ xs) = ap (λ (l : List A). cond (p x) (x ∷ l) l) (kept-filter p xs)

  module _ (p : A → Bool) (xs : List A) (i : ℕ) (d : A) (inside : i < length xs) where
    kept-more : kept p (take (i + 1) xs) ≡ kept p (take i xs) ++ cond (p (get_or xs i d)) (get_or xs i d ∷ []) []
    kept-more =
        kept-filter p (take (i + 1) xs) ∙ filter_more p xs i d inside
        ∙ ap (λ (l : List A). l ++ cond (p (get_or xs i d)) (get_or xs i d ∷ []) []) (sym (kept-filter p (take i xs)))

    -- the i-th passes and is added to what is kept behind the old ones
    pub kept-pushed : (old new : List A) → new ≡ old ++ kept p (take i xs) → p (get_or xs i d) ≡ true → new ++ (get_or xs i d ∷ []) ≡ old ++ kept p (take (i + 1) xs)
    kept-pushed old new e f =
        let x : A = get_or xs i d in
        rw (kept-more, f) (ap (λ (l : List A). l ++ (x ∷ [])) e ∙ append_assoc old (kept p (take i xs)) (x ∷ []))

    -- it fails
    pub kept-skipped : (old new : List A) → new ≡ old ++ kept p (take i xs) → p (get_or xs i d) ≡ false → new ≡ old ++ kept p (take (i + 1) xs)
    kept-skipped old new e f = rw (kept-more, f, append-nil (kept p (take i xs))) e

  -- two tests one after the other
  pub kept-twice : (n m : A → Bool) (xs : List A) → kept (λ (x : A). not (n x || m x)) xs ≡ kept (λ (x : A). not (m x)) (kept (λ (x : A). not (n x)) xs)
  unfolding kept
  kept-twice n m [] = refl
  kept-twice n m (x ∷ xs) = go (n x) (kept-twice n m xs)
    where
      go : (b : Bool) → kept (λ (x : A). not (n x || m x)) xs ≡ kept (λ (x : A). not (m x)) (kept (λ (x : A). not (n x)) xs) →
          cond (not (b || m x)) (x ∷ kept (λ (x : A). not (n x || m x)) xs) (kept (λ (x : A). not (n x || m x)) xs) ≡
          kept (λ (x : A). not (m x)) (cond (not b) (x ∷ kept (λ (x : A). not (n x)) xs) (kept (λ (x : A). not (n x)) xs))
      go true e = e
      go false e = ap (λ (l : List A). cond (not (m x)) (x ∷ l) l) e

  -- what a function makes of each element
  module _ (p : A → Bool) (f : A → A) (xs : List A) (i : ℕ) (d : A) (inside : i < length xs) where
    pub made-pushed : (new : List A) → new ≡ kept p (map f (take i xs)) → p (f (get_or xs i d)) ≡ true → new ++ (f (get_or xs i d) ∷ []) ≡ kept p (map f (take (i + 1) xs))
    made-pushed new e h =
        let m : i < length (map f xs) = rw length-map inside in
        rw (← take-map f (i + 1) xs, ← get_or-map f xs i d d inside)
        (kept-pushed p (map f xs) i d m [] new (rw (← take-map f i xs) at e) (rw (← get_or-map f xs i d d inside) at h))

    pub made-skipped : (new : List A) → new ≡ kept p (map f (take i xs)) → p (f (get_or xs i d)) ≡ false → new ≡ kept p (map f (take (i + 1) xs))
    made-skipped new e h =
        let m : i < length (map f xs) = rw length-map inside in
        rw (← take-map f (i + 1) xs)
        (kept-skipped p (map f xs) i d m [] new (rw (← take-map f i xs) at e) (rw (← get_or-map f xs i d d inside) at h))
