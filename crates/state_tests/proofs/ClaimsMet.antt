-- The values meet the facts of a point: the ranges first, then the stripes. Assumes nothing.
use Rattle.std.proofs.Common.{◌≡◌, ℕ, refl, sym, ap, ◌∙◌, Bool, true, false, ◌&&◌, List, [], ◌∷◌}
use Rattle.std.specs.List.{list_all}
use Rattle.model.specs.Lists.{every}
use Rattle.model.specs.Facts.{Facts, stripe_holds, meets}
use Rattle.state_tests.specs.Meets.{in_ranges}

module _ {A : Type 0} (p : A → Bool) where
  -- the library's word for it
  pub all-every : (xs : List A) → list_all p xs ≡ every p xs
  unfolding every
  all-every [] = refl
  all-every (x ∷ xs) = ap (λ (b : Bool). p x && b) (all-every xs)

module _ (vs : List ℕ) (f : Facts) where
  meets-both : meets vs f ≡ (in_ranges vs f.ranges && every (stripe_holds vs) f.stripes)
  unfolding meets in_ranges
  meets-both = refl

  pub ranges-met : in_ranges vs f.ranges ≡ true → list_all (stripe_holds vs) f.stripes ≡ meets vs f
  ranges-met e = all-every (stripe_holds vs) f.stripes ∙ sym (meets-both ∙ rw e)

  pub ranges-left : in_ranges vs f.ranges ≡ false → false ≡ meets vs f
  ranges-left e = sym (meets-both ∙ rw e)
