-- Tests over the numbers below a count and over the elements of a list, and numbers written into a list.
use Rattle.std.specs.Prelude.{ℕ, zero, suc, ◌+◌, Bool, true, false, ◌&&◌, ◌||◌, cond, List, [], ◌∷◌, set, eqb}

-- every number below the count passes
unfoldable pub every_below : (ℕ → Bool) → ℕ → Bool
every_below p zero = true
every_below p (suc n) = every_below p n && p n

-- numbers written one after the other, from place at + j on
abbrev pub written_after : List ℕ → ℕ → ℕ → List ℕ → List ℕ
written_after l at j [] = l
written_after l at j (x ∷ xs) = written_after (set l (at + j) x) at (j + 1) xs

-- the same from place at on
abbrev pub written_from : List ℕ → ℕ → List ℕ → List ℕ
written_from l at [] = l
written_from l at (x ∷ xs) = written_after (set l at x) at 1 xs

module _ {A : Type 0} where
  -- every element passes
  unfoldable pub every : (A → Bool) → List A → Bool
  every p [] = true
  every p (x ∷ xs) = p x && every p xs

  -- some element passes
  unfoldable pub some : (A → Bool) → List A → Bool
  some p [] = false
  some p (x ∷ xs) = p x || some p xs

  -- the elements that pass
  unfoldable pub kept : (A → Bool) → List A → List A
  kept p [] = []
  kept p (x ∷ xs) = cond (p x) (x ∷ kept p xs) (kept p xs)

  -- there is no element
  abbrev pub is_empty : List A → Bool
  is_empty [] = true
  is_empty (x ∷ xs) = false

-- the number is one of the list
abbrev pub among : ℕ → List ℕ → Bool
among n l = some (eqb n) l
