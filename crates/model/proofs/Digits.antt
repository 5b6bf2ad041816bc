-- A number read from n columns of digits is less than 10 ^ n. Assumes nothing.
use Prim.Native.Nat.{ℕ, zero, suc, ◌+◌, ◌-◌, ◌^◌, ◌<◌, ◌≤◌}
use native.Mathlib.Nat.{pow-suc, pow-le-pow_right, lt_of_lt_of_le}
use native.Mathlib.Omega.{arith}
use mathlib.Core.Path.{◌≡◌, refl}
use mathlib.Core.Bool.{Bool, true, false, cond}
use mathlib.Core.List.{List}
use lib.ListN.{get_or}
use lib.Dec.{leb}
use borrow.Author.Tests.{leb-true}
use Rattle.model.specs.Text.{is_digit, digit_of, digits_of, DigitsBelow}
use Rattle.model.proofs.Tests.{and_left, and_right}

-- a digit's byte
pub digit-byte : (b : ℕ) → is_digit b ≡ true → (48 ≤ b) × (b ≤ 57)
unfolding is_digit
digit-byte b e = (leb-true 48 b (and_left (leb 48 b) _ e), leb-true b 57 (and_right (leb 48 b) _ e))

pub digit-below : (b : ℕ) → digit_of b ≤ 9
unfolding digit_of
digit-below b = go (is_digit b) refl
  where
    go : (t : Bool) → is_digit b ≡ t → cond t (b - 48) 0 ≤ 9
    go true e = omega (arith, digit-byte b e)
    go false e = omega arith

pub digits-below : DigitsBelow
unfolding digits_of
digits-below s at zero = omega arith
digits-below s at (suc n) = rw pow-suc (omega (arith, digits-below s at n, digit-below (get_or s (at + n) 0)))

-- of some of m columns
pub digits-fit : (m : ℕ) (s : List ℕ) (at n : ℕ) → n ≤ m → digits_of s at n < 10 ^ m
digits-fit m s at n h = lt_of_lt_of_le (digits-below s at n) (pow-le-pow_right (omega arith) h)
