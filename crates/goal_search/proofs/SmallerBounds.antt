-- A goal with a smaller bound follows where the goal does, so a better link does all that another does. Assumes nothing.
use mathlib.Core.Path.{◌≡◌}
use mathlib.Core.Bool.{Bool, true, ◌&&◌, ◌||◌}
use Prim.Native.Nat.{ℕ, zero, suc, ◌+◌, ◌*◌, ◌≤◌}
use native.Mathlib.Nat.{mul-add, mul-le-mul_left}
use native.Mathlib.Omega.{arith}
use lib.Dec.{eqb, leb}
use borrow.Author.Tests.{leb-true, le-leb}
use Rattle.model.specs.declared.claims.Stripe.{Stripe}
use Rattle.model.specs.Lists.{some}
use Rattle.model.specs.Facts.{Facts, hi, lo}
use Rattle.model.specs.Transfer.{stripe}
use Rattle.model.specs.Follows.{by_ranges, same_sides, covers, at_once, is_link, through_link, follows}
use Rattle.model.proofs.Tests.{and_kept, or_kept}
use Rattle.edge_links.specs.Links.{Lasting}
use Rattle.goal_search.specs.Goal.{by_link}
use Rattle.goal_search.proofs.SomeElement.{some-weaker}

-- a disjunction of conjunctions, each with its own second part carried over
carried : (a b b' c d d' : Bool) → (b ≡ true → b' ≡ true) → (d ≡ true → d' ≡ true) → (a && b || c && d) ≡ true → (a && b' || c && d') ≡ true
carried a b b' c d d' f g e = or_kept (a && b) (c && d) (a && b') (c && d') (and_kept a b b' f) (and_kept c d d' g) e

easier-leb : (p q g h m k : ℕ) → h + m ≤ g + k → leb (p + g) (q + m) ≡ true → leb (p + h) (q + k) ≡ true
easier-leb p q g h m k e t = le-leb (p + h) (q + k) (omega (arith, leb-true (p + g) (q + m) t))

module _ (f : Facts) (x a : ℕ) where
  covers-easier : (s : Stripe) (y z g h m k : ℕ) → h + m ≤ g + k → covers s (stripe x a y z g m) ≡ true → covers s (stripe x a y z h k) ≡ true
  covers-easier s y z g h m k e c =
      and_kept (same_sides s (stripe x a y z g m)) (leb (g + s.minus) (s.plus + m)) (leb (h + s.minus) (s.plus + k))
      (λ t. le-leb (h + s.minus) (s.plus + k) (omega (arith, leb-true (g + s.minus) (s.plus + m) t))) c

  once-easier : (y z g h m k : ℕ) → h + m ≤ g + k → at_once f (stripe x a y z g m) ≡ true → at_once f (stripe x a y z h k) ≡ true
  once-easier y z g h m k e t =
      let old = stripe x a y z g m in
      let new = stripe x a y z h k in
      let ss = f.stripes in
      or_kept (by_ranges f.ranges old) (some (λ (s : Stripe). covers s old) ss) (by_ranges f.ranges new) (some (λ (s : Stripe). covers s new) ss)
      (easier-leb (a * (hi f.ranges y + hi f.ranges z)) (lo f.ranges x) g h m k e)
      (some-weaker (λ (s : Stripe). covers s old) (λ (s : Stripe). covers s new) (λ s c. covers-easier s y z g h m k e c) ss) t

  -- a bound h − k of at most g − m
  pub follows-easier : (n : ℕ) (y z g h m k : ℕ) → h + m ≤ g + k → follows f n (stripe x a y z g m) ≡ true → follows f n (stripe x a y z h k) ≡ true
  unfolding follows
  follows-easier zero y z g h m k e t = once-easier y z g h m k e t
  follows-easier (suc n) y z g h m k e t =
      let old = stripe x a y z g m in
      let new = stripe x a y z h k in
      let ss = f.stripes in
      or_kept (at_once f old) (some (through_link (follows f n) old) ss) (at_once f new) (some (through_link (follows f n) new) ss)
      (once-easier y z g h m k e)
      (some-weaker (through_link (follows f n) old) (through_link (follows f n) new) (λ s l.
      let p : ℕ = a * s.plus in
      let q : ℕ = a * s.minus in
      let u : ℕ = s.x in
      and_kept (is_link s) (by_link (follows f n) old s) (by_link (follows f n) new s)
      (carried (eqb s.y y) (follows f n (stripe x a u z (g + q) (m + p))) (follows f n (stripe x a u z (h + q) (k + p)))
      (eqb s.y z) (follows f n (stripe x a y u (g + q) (m + p))) (follows f n (stripe x a y u (h + q) (k + p)))
      (follows-easier n u z (g + q) (h + q) (m + p) (k + p) (omega arith))
      (follows-easier n y u (g + q) (h + q) (m + p) (k + p) (omega arith))) l) ss) t

-- one use of a link: a better link passes too
pub link-lasting : (f : Facts) (n : ℕ) (g : Stripe) → Lasting (by_link (follows f n) g)
link-lasting f n g s t b e =
    let a = g.a in
    let more : g.plus + a * t.minus + (g.minus + a * s.plus) ≤ g.plus + a * s.minus + (g.minus + a * t.plus) =
    omega (arith, b.bound, mul-add a s.plus t.minus, mul-add a t.plus s.minus, mul-le-mul_left a b.bound) in
    rw (b.x, b.y)
    (carried (eqb s.y g.y) (follows f n (stripe g.x a s.x g.z (g.plus + a * s.minus) (g.minus + a * s.plus))) (follows f n (stripe g.x a s.x g.z (g.plus + a * t.minus) (g.minus + a * t.plus)))
    (eqb s.y g.z) (follows f n (stripe g.x a g.y s.x (g.plus + a * s.minus) (g.minus + a * s.plus))) (follows f n (stripe g.x a g.y s.x (g.plus + a * t.minus) (g.minus + a * t.plus)))
    (follows-easier f g.x a n s.x g.z _ _ _ _ more)
    (follows-easier f g.x a n g.y s.x _ _ _ _ more) e)
