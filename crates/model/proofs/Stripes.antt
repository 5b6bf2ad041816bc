-- Stripes that hold before a step and after it. Assumes nothing.
use mathlib.Core.Path.{◌≡◌, refl, ap, sym, ◌∙◌}
use mathlib.Core.Logic.{◌≢◌}
use mathlib.Core.Bool.{Bool, true, false, not, cond, or-true, false≢true}
use mathlib.Core.List.{List, [], ◌∷◌, map}
use Prim.Native.Nat.{ℕ, ◌+◌, ◌*◌, ◌≤◌}
use native.Mathlib.Nat.{mul-add}
use native.Mathlib.Omega.{arith}
use native.Mathlib.Decide.{ℕ_discrete}
use lib.Dec.{eqb}
use borrow.Author.Tests.{eqb-true, eqb-false, eq-eqb, ne_eqb, not-true}
use Rattle.model.specs.Types.{Stripe}
use Rattle.model.specs.Limits.{blank_variable, today}
use Rattle.model.specs.Lists.{kept}
use Rattle.model.specs.Transfer.{names, dropped, bound_in_limits, if_is, shifted, all_shifted, apart, by_number}
use Rattle.model.proofs.Tests.{cond_cases}
use Rattle.model.proofs.Meaning.{Holds, AllHold}
use Rattle.model.proofs.Ranges.{OnlyAt}

-- stripes that hold, of which some are dropped
kept-hold : (val : ℕ → ℕ) (p : Stripe → Bool) (ss : List Stripe) → AllHold val ss → AllHold val (kept p ss)
unfolding kept
kept-hold val p [] h = tt
kept-hold val p (s ∷ ss) h = go (kept-hold val p ss h.1) (p s)
  where
    go : AllHold val (kept p ss) → (b : Bool) → AllHold val (cond b (s ∷ kept p ss) (kept p ss))
    go rest true = (h.0, rest)
    go rest false = rest

-- stripes over the same values
pub same-hold : (val val' : ℕ → ℕ) → ((v : ℕ) → val' v ≡ val v) → (ss : List Stripe) → AllHold val ss → AllHold val' ss
same-hold val val' same [] h = tt
same-hold val val' same (s ∷ ss) h = (rw (same s.x, same s.y, same s.z) h.0, same-hold val val' same ss h.1)

-- u − v ≥ plus − minus, as a stripe with a blank z
pub apart-holds : (val : ℕ → ℕ) (u v p m : ℕ) → val blank_variable ≡ 0 → val v + p ≤ val u + m → Holds val (apart u v p m)
apart-holds val u v p m z h = omega arith

-- a stripe that does not name d holds after a write of d
module _ (d : ℕ) (val val' : ℕ → ℕ) (same : OnlyAt d val val') where
  -- each of x, y, z that is d is named
  named-x : (s : Stripe) → s.x ≡ d → names d s ≡ true
  named-x s e = simp (eq-eqb _ _ e)

  named-y : (s : Stripe) → s.y ≡ d → names d s ≡ true
  named-y s e = simp (eq-eqb _ _ e, or-true)

  named-z : (s : Stripe) → s.z ≡ d → names d s ≡ true
  named-z s e = simp (eq-eqb _ _ e, or-true)

  unnamed : (s : Stripe) → names d s ≡ false → Holds val s → Holds val' s
  unnamed s e h = rw (same s.x (other (named-x s)), same s.y (other (named-y s)), same s.z (other (named-z s))) h
    where
      other : {P : Type 0} → (P → names d s ≡ true) → P → ⊥
      other f p = false≢true (sym e ∙ f p)

  pub dropped-hold : (ss : List Stripe) → AllHold val ss → AllHold val' (dropped d ss)
  unfolding kept
  dropped-hold [] h = tt
  dropped-hold (s ∷ ss) h =
      let rest = dropped-hold ss h.1 in
      cond_cases (AllHold val') (not (names d s)) (s ∷ dropped d ss) (dropped d ss) (λ e. (unnamed s (not-true _ e) h.0, rest)) (λ e. rest)

  -- d becomes d + up − down
  module _ (up down : ℕ) (moved : val' d + down ≡ val d + up) where
    at_each : (v : ℕ) → val' v + if_is d v down ≡ val v + if_is d v up
    at_each v = go (ℕ_discrete v d)
      where
        go : Dec (v ≡ d) → val' v + cond (eqb v d) down 0 ≡ val v + cond (eqb v d) up 0
        go (yes e) = rw (eq-eqb v d e, e) moved
        go (no n) = rw (ne_eqb v d n, same v n) refl

    shifted-holds : (s : Stripe) → Holds val s → Holds val' (shifted d up down s)
    shifted-holds s h =
        let y' = val' s.y in
        let z' = val' s.z in
        let yd = if_is d s.y down in
        let zd = if_is d s.z down in
        let yu = if_is d s.y up in
        let zu = if_is d s.z up in
        let sides : y' + z' + (yd + zd) ≡ val s.y + val s.z + (yu + zu) = omega (arith, at_each s.y, at_each s.z) in
        omega (arith, at_each s.x, mul-add s.a (y' + z') (yd + zd), mul-add s.a (val s.y + val s.z) (yu + zu), ap (λ (k : ℕ). s.a * k) sides)

    map-shifted : (ss : List Stripe) → AllHold val ss → AllHold val' (map (shifted d up down) ss)
    map-shifted [] h = tt
    map-shifted (s ∷ ss) h = (shifted-holds s h.0, map-shifted ss h.1)

    shifted-hold : (ss : List Stripe) → AllHold val ss → AllHold val' (all_shifted today d up down ss)
    shifted-hold ss h = kept-hold val' (bound_in_limits today) (map (shifted d up down) ss) (map-shifted ss h)

  -- d becomes i + up − down
  pub by_number-hold : (i up down : ℕ) (ss : List Stripe) → val' blank_variable ≡ 0 → val' d + down ≡ val i + up → AllHold val ss → AllHold val' (by_number today d i up down ss)
  by_number-hold i up down ss z moved h =
      cond_cases (AllHold val') (eqb d i) (all_shifted today d up down ss) (apart d i up down ∷ apart i d down up ∷ dropped d ss)
      (λ e. let q : val d ≡ val i = ap val (eqb-true d i e) in shifted-hold up down (omega arith) ss h)
      (λ e.
      let away : i ≢ d = λ q. eqb-false d i e (sym q) in
      let same-i : val' i ≡ val i = same i away in
      (apart-holds val' d i up down z (omega arith), (apart-holds val' i d down up z (omega arith), dropped-hold ss h)))
