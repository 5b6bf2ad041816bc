-- What ranges and stripes claim of a valuation of the variables, and the test of it. Assumes nothing.
use mathlib.Core.Path.{◌≡◌, refl, sym, subst₂}
use mathlib.Core.Bool.{Bool, true}
use mathlib.Core.List.{List, [], ◌∷◌}
use Prim.Native.Nat.{ℕ, ◌+◌, ◌*◌, ◌≤◌, ◌<◌}
use native.Mathlib.Omega.{arith}
use native.Mathlib.Decide.{dec_lt}
use lib.ListN.{length, get_or-eq_default}
use lib.Dec.{leb}
use borrow.Author.Tests.{leb-true, le-leb}
use Rattle.model.specs.Types.{Range, Stripe}
use Rattle.model.specs.Limits.{variables}
use Rattle.model.specs.Lists.{every_below, every}
use Rattle.model.specs.Facts.{exactly, Facts, range_of, in_range, value_at, stripe_holds, meets}
use Rattle.model.proofs.Tests.{and_left, and_right, and_both, every-below, all-below}

-- the value lies in the range
abbrev pub InRange : ℕ → Range → Type 0
InRange n r = (r.lo ≤ n) × (n ≤ r.hi)

-- every variable lies in its range; past the list both ends are 0, so the blank variable is 0
abbrev pub InRanges : (ℕ → ℕ) → List Range → Type 0
InRanges val rs = (v : ℕ) → InRange (val v) (range_of rs v)

-- x − a × (y + z) ≥ plus − minus
abbrev pub Holds : (ℕ → ℕ) → Stripe → Type 0
Holds val s = s.a * (val s.y + val s.z) + s.plus ≤ val s.x + s.minus

abbrev pub AllHold : (ℕ → ℕ) → List Stripe → Type 0
AllHold val [] = Unit {0}
AllHold val (s ∷ ss) = Holds val s × AllHold val ss

-- the valuation meets the facts
pub record Met (val : ℕ → ℕ) (f : Facts) : Type 0 where
  pub ranges : InRanges val f.ranges
  pub stripes : AllHold val f.stripes

module _ (vs : List ℕ) where
  stripes-held : (ss : List Stripe) → every (stripe_holds vs) ss ≡ true → AllHold (value_at vs) ss
  unfolding every
  stripes-held [] e = tt
  stripes-held (s ∷ ss) e =
      (leb-true _ _ (and_left (stripe_holds vs s) _ e), stripes-held ss (and_right (stripe_holds vs s) _ e))

  stripes-hold : (ss : List Stripe) → AllHold (value_at vs) ss → every (stripe_holds vs) ss ≡ true
  unfolding every
  stripes-hold [] h = refl
  stripes-hold (s ∷ ss) h = and_both (stripe_holds vs s) _ (le-leb _ _ h.0) (stripes-hold ss h.1)

  -- the test and what it tests agree
  module _ (f : Facts) where
    pub met : length vs ≡ variables → length f.ranges ≡ variables → meets vs f ≡ true → Met (value_at vs) f
    unfolding meets
    met n r e = record { ranges = λ v. go v (dec_lt v variables); stripes = stripes-held f.stripes (and_right (every_below inside variables) _ e) }
      where
        inside : ℕ → Bool
        inside v = in_range (value_at vs v) (range_of f.ranges v)

        go : (v : ℕ) → Dec (v < variables) → InRange (value_at vs v) (range_of f.ranges v)
        go v (yes h) =
            let t : inside v ≡ true = every-below inside variables (and_left (every_below inside variables) _ e) v h in
            (leb-true _ _ (and_left (leb (range_of f.ranges v).lo (value_at vs v)) _ t), leb-true _ _ (and_right (leb (range_of f.ranges v).lo (value_at vs v)) _ t))
        go v (no h) =
            subst₂ InRange (sym (get_or-eq_default vs 0 (omega arith))) (sym (get_or-eq_default f.ranges (exactly 0) (omega arith))) (omega arith)

    pub meets-met : Met (value_at vs) f → meets vs f ≡ true
    unfolding meets
    meets-met h =
        and_both _ _
        (all-below (λ (v : ℕ). in_range (value_at vs v) (range_of f.ranges v)) variables (λ v i. and_both _ _ (le-leb _ _ (h.ranges v).0) (le-leb _ _ (h.ranges v).1)))
        (stripes-hold f.stripes h.stripes)
