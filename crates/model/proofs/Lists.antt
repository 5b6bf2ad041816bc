-- What holds of every element of a list. Assumes nothing.
use mathlib.Core.List.{List, [], ◌∷◌, ◌++◌}
use mathlib.Core.Bool.{Bool, true, ◌&&◌}
use mathlib.Core.Path.{◌≡◌, sym, ap, ◌∙◌}
use Prim.Native.Nat.{ℕ, zero, suc, ◌<◌}
use native.Mathlib.Nat.{not-suc-le-zero, le_of_suc-le-suc}
use lib.ListN.{length, get_or}
use Rattle.model.specs.Lists.{every}
use Rattle.model.proofs.Tests.{and_left, and_right, and-true, and_assoc}

module _ {A : Type 0} where
  abbrev pub All : (A → Type 0) → List A → Type 0
  All P [] = Unit {0}
  All P (x ∷ xs) = P x × All P xs

  pub all_snoc : (P : A → Type 0) (xs : List A) (x : A) → All P xs → P x → All P (xs ++ (x ∷ []))
  all_snoc P [] x h p = (p, tt)
  all_snoc P (y ∷ xs) x h p = (h.0, all_snoc P xs x h.1 p)

  pub all-at : (P : A → Type 0) (xs : List A) (d : A) (i : ℕ) → i < length xs → All P xs → P (get_or xs i d)
  all-at P [] d i k h = absurd (not-suc-le-zero k)
  all-at P (x ∷ xs) d zero k h = h.0
  all-at P (x ∷ xs) d (suc i) k h = all-at P xs d i (le_of_suc-le-suc k) h.1

  -- a test of all elements, and of one more behind them
  pub every-snoc : (p : A → Bool) (l : List A) (x : A) → (every p l && p x) ≡ every p (l ++ (x ∷ []))
  unfolding every
  every-snoc p [] x = and-true (p x)
  every-snoc p (y ∷ l) x = sym (and_assoc (p y) (every p l) (p x)) ∙ ap (λ (b : Bool). p y && b) (every-snoc p l x)

  pub every-at : (p : A → Bool) (l : List A) (d : A) (i : ℕ) → every p l ≡ true → i < length l → p (get_or l i d) ≡ true
  unfolding every
  every-at p [] d i e k = absurd (not-suc-le-zero k)
  every-at p (x ∷ xs) d zero e k = and_left (p x) (every p xs) e
  every-at p (x ∷ xs) d (suc i) e k = every-at p xs d i (and_right (p x) (every p xs) e) (le_of_suc-le-suc k)
