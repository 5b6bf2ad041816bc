-- A number of an argument, byte by byte. Assumes nothing.
use Rattle.std.proofs.Common.{◌≡◌, ℕ, zero, suc, ◌+◌, ◌<◌, ◌≤◌, List, length, get_or, ap, ◌∙◌, add-one, arith}
use Rattle.std.specs.Prelude.{Some, None}
use native.Mathlib.Decide.{ℕ_discrete}
use borrow.Author.Tests.{ne_eqb}
use Rattle.saved.specs.Numbers.{with_digit, then_digit, digits_to, number_in}

module _ (t : List ℕ) where
  -- one byte more, as the code counts
  pub digits-next : (n : ℕ) → digits_to t (n + 1) ≡ then_digit (digits_to t n) (get_or t n 0)
  unfolding digits_to
  digits-next n = ap (digits_to t) (add-one n)

  -- the bytes after one that ends the number do not matter
  pub none-stays : (n m : ℕ) → n ≤ m → digits_to t n ≡ None → digits_to t m ≡ None
  unfolding digits_to
  none-stays n zero h e = let q : n ≡ 0 = omega arith in rw q at e
  none-stays n (suc m) h e = go (ℕ_discrete n (suc m)) (λ k. none-stays n m k e)
    where
      go : Dec (n ≡ suc m) → (n ≤ m → digits_to t m ≡ None) → digits_to t (suc m) ≡ None
      go (yes q) f = rw q at e
      go (no q) f = rw (f (omega arith))

  -- nor does the number of them
  pub number-ended : (n i : ℕ) → i < length t → digits_to t i ≡ Some n → with_digit n (get_or t i 0) ≡ None → number_in t ≡ None
  unfolding number_in
  number-ended n i h e f =
      let some : length t ≡ 0 → ⊥ = λ z. omega arith in
      rw (ne_eqb (length t) 0 some) (none-stays (i + 1) (length t) (omega arith) (digits-next i ∙ rw (e, f)))
