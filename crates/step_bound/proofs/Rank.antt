-- The rank of a place in a listing of n points, and the three kinds of step that make it smaller. Assumes nothing.
use Prim.Native.Nat.{ℕ, ◌+◌, ◌-◌, ◌*◌, ◌≤◌, ◌<◌}
use mathlib.Core.Bool.{Bool, true, false, cond}
use mathlib.Core.Path.{◌≡◌}
use native.Mathlib.Omega.{arith}
use native.Mathlib.Nat.{mul-le-mul_right, suc-mul, mul_comm}

-- `back` marks the points with a backward edge
module _ (n : ℕ) (back : ℕ → Bool) where
  -- the steps that are left at point p, where x counts the rounds left: n for each round, those forward from p, and n more where a backward edge is next
  unfoldable pub rank : ℕ → ℕ → ℕ
  rank p x = x * n + (n - 1 - p) + cond (back p) n 0

  -- the part for a backward edge
  at-most : (b : Bool) → cond b n 0 ≤ n
  at-most true = omega arith
  at-most false = omega arith

  -- forward, to a point without a backward edge
  pub forward : (p q x : ℕ) → p < q → q < n → back q ≡ false → rank q x < rank p x
  unfolding rank
  forward p q x on inside none = rw none (omega arith)

  -- a round is counted, on the way to the next point
  pub counted : (p x y : ℕ) → p + 1 < n → y < x → rank (p + 1) y < rank p x
  unfolding rank
  counted p x y inside less = omega (arith, mul-le-mul_right n less, suc-mul y n, at-most (back (p + 1)))

  -- over a backward edge, to a point without one
  pub backward : (p q x : ℕ) → p < n → back p ≡ true → back q ≡ false → rank q x < rank p x
  unfolding rank
  backward p q x inside some none = rw (some, none) (omega arith)

  -- at point 0, with fewer than k rounds left
  pub start-rank : (x k : ℕ) → 0 < n → x < k → back 0 ≡ false → rank 0 x < n * k
  unfolding rank
  start-rank x k inside less none = rw none (omega (arith, mul-le-mul_right n less, suc-mul x n, mul_comm n k))
