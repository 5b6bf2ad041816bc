-- Claims that hold make the facts of their point met. Assumes nothing.
use mathlib.Core.Path.{◌≡◌, refl, sym, ap, subst, ◌∙◌}
use mathlib.Core.Bool.{Bool, true, false, ◌&&◌, cond}
use mathlib.Core.List.{List, [], ◌∷◌, ◌++◌}
use Prim.Native.Nat.{ℕ, ◌≤◌, ◌<◌}
use native.Mathlib.Omega.{arith}
use native.Mathlib.Decide.{ℕ_discrete, dec_lt}
use lib.ListN.{length, set, length-set, get_or-eq_default}
use lib.Seq.{get_or-set_same, get_or-set_other, set_out}
use lib.Dec.{eqb, ltb}
use borrow.Author.Tests.{eqb-true, lt-ltb}
use Rattle.model.specs.Types.{Range, Stripe, Claim, Leas, Most, Strp, Turn}
use Rattle.model.specs.Limits.{registers, variables, blank_variable, MAX}
use Rattle.model.specs.Facts.{exactly, register_range, size_range, unclaimed_range, Facts, unclaimed, range_of, lo, hi, with_claim, with_claims, facts_of}
use Rattle.model.specs.Lists.{every_below}
use Rattle.model.proofs.Tests.{and_left, and_right, every-below}
use Rattle.model.proofs.Lists.{All}
use Rattle.model.specs.Limited.{ClaimLimited}
use Rattle.model.proofs.Meaning.{Holds, AllHold, Met}
use Rattle.model.proofs.Follows.{ClaimHolds, ClaimsHold}
use Rattle.model.proofs.Ranges.{in-reset}

hold-more : (val : ℕ → ℕ) (ss : List Stripe) (s : Stripe) → AllHold val ss → Holds val s → AllHold val (ss ++ (s ∷ []))
hold-more val [] s h t = (t, tt)
hold-more val (q ∷ ss) s h t = (h.0, hold-more val ss s h.1 t)

module _ (val : ℕ → ℕ) where
  met-claim : (f : Facts) (c : Claim) → Met val f → ClaimHolds val c → Met val (with_claim f c)
  met-claim f (Leas v n) h t = let r = h.ranges v in record { ranges = in-reset val f.ranges v _ (omega arith) h.ranges; stripes = h.stripes }
  met-claim f (Most v n) h t = let r = h.ranges v in record { ranges = in-reset val f.ranges v _ (omega arith) h.ranges; stripes = h.stripes }
  met-claim f (Strp s) h t = record { ranges = h.ranges; stripes = hold-more val f.stripes s h.stripes t }
  met-claim f (Turn r) h t = h

  pub met-claims : (f : Facts) (cs : List Claim) → Met val f → ClaimsHold val cs → Met val (with_claims f cs)
  met-claims f [] h t = h
  met-claims f (c ∷ cs) h t = met-claims (with_claim f c) cs (met-claim f c h t.0) t.1

-- the facts of a point have a range for every variable
claim-long : (f : Facts) (c : Claim) → length (with_claim f c).ranges ≡ length f.ranges
claim-long f (Leas v n) = length-set f.ranges v _
claim-long f (Most v n) = length-set f.ranges v _
claim-long f (Strp s) = refl
claim-long f (Turn r) = refl

claims-long : (f : Facts) (cs : List Claim) → length (with_claims f cs).ranges ≡ length f.ranges
claims-long f [] = refl
claims-long f (c ∷ cs) = claims-long (with_claim f c) cs ∙ claim-long f c

pub facts-long : (cs : List Claim) → length (facts_of cs).ranges ≡ variables
unfolding facts_of
facts-long cs = claims-long unclaimed cs

-- the unclaimed ends of every variable, by computation
pub unclaimed-ends : (v : ℕ) → v < variables → (lo unclaimed.ranges v ≡ 0) × (hi unclaimed.ranges v ≡ (unclaimed_range v).hi)
unfolding every_below
unclaimed-ends v h = (eqb-true _ _ (and_left (eqb (lo unclaimed.ranges v) 0) _ t), eqb-true _ _ (and_right (eqb (lo unclaimed.ranges v) 0) _ t))
  where
    ends : ℕ → Bool
    ends v = eqb (lo unclaimed.ranges v) 0 && eqb (hi unclaimed.ranges v) (unclaimed_range v).hi

    computed : every_below ends variables ≡ true
    computed = refl

    t : ends v ≡ true
    t = every-below ends variables computed v h

-- the unclaimed high end of a variable
unfoldable pub top : ℕ → ℕ
top v = hi unclaimed.ranges v

pub top-claimed : (v : ℕ) → v < variables → top v ≡ (unclaimed_range v).hi
unfolding top
top-claimed v h = (unclaimed-ends v h).1

pub top-register : (d : ℕ) → d < registers → top d ≡ MAX
top-register d h = top-claimed d (omega arith) ∙ rw (lt-ltb d registers h)

top-past : (v : ℕ) → variables ≤ v → top v ≡ 0
unfolding top
top-past v h = ap (λ (r : Range). r.hi) (get_or-eq_default unclaimed.ranges (exactly 0) {n = v} h)

top_small : (v : ℕ) → top v ≤ MAX
top_small v = go (dec_lt v variables)
  where
    below : (b : Bool) → (cond b register_range size_range).hi ≤ MAX
    below true = omega arith
    below false = omega arith

    go : Dec (v < variables) → top v ≤ MAX
    go (yes i) = omega (arith, top-claimed v i, below (ltb v registers))
    go (no n) = omega (arith, top-past v (omega arith))

-- no value is above the unclaimed end of its variable
abbrev pub Bounded : (ℕ → ℕ) → Type 0
Bounded val = (v : ℕ) → val v ≤ top v

-- then the blank variable is 0, and no value is above MAX
module _ (val : ℕ → ℕ) (h : Bounded val) where
  pub blank-value : val blank_variable ≡ 0
  blank-value = omega (arith, h blank_variable, top-past blank_variable (omega arith))

  pub small-value : (v : ℕ) → val v ≤ MAX
  small-value v = omega (arith, h v, top_small v)

unclaimed-lo : (v : ℕ) → lo unclaimed.ranges v ≡ 0
unclaimed-lo v = go (dec_lt v variables)
  where
    go : Dec (v < variables) → lo unclaimed.ranges v ≡ 0
    go (yes h) = (unclaimed-ends v h).0
    go (no h) = ap (λ (r : Range). r.lo) (get_or-eq_default unclaimed.ranges (exactly 0) {n = v} (omega arith))

pub bounded-met : (val : ℕ → ℕ) → Bounded val → Met val unclaimed
unfolding top
bounded-met val h = record { ranges = λ v. (rw (unclaimed-lo v) (omega arith), h v); stripes = tt }

-- the facts of limited claims are no wider than the unclaimed ones
abbrev Narrow : Facts → Type 0
Narrow f = (v : ℕ) → hi f.ranges v ≤ top v

narrow-set : (rs : List Range) (v : ℕ) (r : Range) → ((u : ℕ) → hi rs u ≤ top u) → r.hi ≤ top v → (u : ℕ) → hi (set rs v r) u ≤ top u
narrow-set rs v r h k u = go (dec_lt v (length rs)) (ℕ_discrete u v)
  where
    Fine : ℕ → Range → Type 0
    Fine u q = q.hi ≤ top u

    go : Dec (v < length rs) → Dec (u ≡ v) → Fine u (range_of (set rs v r) u)
    go (yes i) (yes e) = subst (λ (w : ℕ). Fine w (range_of (set rs v r) w)) (sym e) (subst (Fine v) (sym (get_or-set_same rs v r (exactly 0) i)) k)
    go (yes i) (no n) = subst (Fine u) (sym (get_or-set_other rs v u r (exactly 0) n)) (h u)
    go (no i) d = subst (λ (l : List Range). Fine u (range_of l u)) (sym (set_out rs v r (omega arith))) (h u)

narrow-claim : (f : Facts) (c : Claim) → ClaimLimited c → Narrow f → Narrow (with_claim f c)
narrow-claim f (Leas v n) t h = narrow-set f.ranges v _ h (h v)
narrow-claim f (Most v n) t h = narrow-set f.ranges v _ h (rw (top-claimed v t.0) t.1)
narrow-claim f (Strp s) t h = h
narrow-claim f (Turn r) t h = h

narrow-claims : (f : Facts) (cs : List Claim) → All ClaimLimited cs → Narrow f → Narrow (with_claims f cs)
narrow-claims f [] t h = h
narrow-claims f (c ∷ cs) t h = narrow-claims (with_claim f c) cs t.1 (narrow-claim f c t.0 h)

-- values that meet limited claims are bounded
pub met-bounded : (val : ℕ → ℕ) (cs : List Claim) → All ClaimLimited cs → Met val (facts_of cs) → Bounded val
unfolding facts_of top
met-bounded val cs t h v =
    let r = h.ranges v in
    let narrow = narrow-claims unclaimed cs t (λ u. omega arith) v in
    omega arith

-- bounded values of which the claims hold meet the facts of the claims
pub met-facts : (val : ℕ → ℕ) (cs : List Claim) → Bounded val → ClaimsHold val cs → Met val (facts_of cs)
unfolding facts_of
met-facts val cs b h = met-claims val unclaimed cs (bounded-met val b) h
