-- Numbers written one after the other into a list: what is read again, and what stays. Assumes nothing.
use mathlib.Core.List.{List, [], ◌∷◌}
use mathlib.Core.Path.{◌≡◌, refl, ◌∙◌}
use Prim.Native.Nat.{ℕ, zero, suc, ◌+◌, ◌≤◌, ◌<◌}
use native.Mathlib.Nat.{not-suc-le-zero, le_of_suc-le-suc}
use native.Mathlib.Omega.{arith}
use lib.ListN.{length, get_or, set, length-set}
use lib.Seq.{get_or-set_same, get_or-set_other}
use Rattle.model.specs.Lists.{written_after, written_from}

after-long : (l : List ℕ) (at j : ℕ) (xs : List ℕ) → length (written_after l at j xs) ≡ length l
after-long l at j [] = refl
after-long l at j (x ∷ xs) = after-long (set l (at + j) x) at (j + 1) xs ∙ length-set l (at + j) x

pub written-long : (l : List ℕ) (at : ℕ) (xs : List ℕ) → length (written_from l at xs) ≡ length l
written-long l at [] = refl
written-long l at (x ∷ xs) = after-long (set l at x) at 1 xs ∙ length-set l at x

-- a number at another place stays
after-away : (l : List ℕ) (at j : ℕ) (xs : List ℕ) (t : ℕ) → ((i : ℕ) → i < length xs → t ≡ at + (j + i) → ⊥) → get_or (written_after l at j xs) t 0 ≡ get_or l t 0
after-away l at j [] t out = refl
after-away l at j (x ∷ xs) t out =
    after-away (set l (at + j) x) at (j + 1) xs t (λ i h e. out (suc i) (omega arith) (omega arith))
    ∙ get_or-set_other l (at + j) t x 0 (λ e. out 0 (omega arith) (omega arith))

pub written-away : (l : List ℕ) (at : ℕ) (xs : List ℕ) (t : ℕ) → ((i : ℕ) → i < length xs → t ≡ at + i → ⊥) → get_or (written_from l at xs) t 0 ≡ get_or l t 0
written-away l at [] t out = refl
written-away l at (x ∷ xs) t out =
    after-away (set l at x) at 1 xs t (λ i h e. out (suc i) (omega arith) (omega arith))
    ∙ get_or-set_other l at t x 0 (λ e. out 0 (omega arith) (omega arith))

-- a number that is written is read again
after-there : (l : List ℕ) (at j : ℕ) (xs : List ℕ) (i t : ℕ) → at + (j + length xs) ≤ length l → i < length xs → t ≡ at + (j + i) → get_or (written_after l at j xs) t 0 ≡ get_or xs i 0
after-there l at j [] i t room h e = absurd (not-suc-le-zero h)
after-there l at j (x ∷ xs) zero t room h e =
    after-away (set l (at + j) x) at (j + 1) xs t (λ i h f. omega arith)
    ∙ (let same : t ≡ at + j = omega arith in rw same (get_or-set_same l (at + j) x 0 (omega arith)))
after-there l at j (x ∷ xs) (suc i) t room h e =
    after-there (set l (at + j) x) at (j + 1) xs i t (rw (length-set l (at + j) x) (omega arith)) (le_of_suc-le-suc h) (omega arith)

pub written-there : (l : List ℕ) (at : ℕ) (xs : List ℕ) (i t : ℕ) → at + length xs ≤ length l → i < length xs → t ≡ at + i → get_or (written_from l at xs) t 0 ≡ get_or xs i 0
written-there l at [] i t room h e = absurd (not-suc-le-zero h)
written-there l at (x ∷ xs) zero t room h e =
    after-away (set l at x) at 1 xs t (λ i h f. omega arith)
    ∙ (let same : t ≡ at = omega arith in rw same (get_or-set_same l at x 0 (omega arith)))
written-there l at (x ∷ xs) (suc i) t room h e =
    after-there (set l at x) at 1 xs i t (rw (length-set l at x) (omega arith)) (le_of_suc-le-suc h) (omega arith)
