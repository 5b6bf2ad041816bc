-- What follows holds of every valuation that meets the facts. Assumes nothing.
use mathlib.Core.Path.{◌≡◌, refl, ap}
use mathlib.Core.Bool.{Bool, true, false, ◌&&◌, false≢true, cond}
use mathlib.Core.List.{List, [], ◌∷◌}
use Prim.Native.Nat.{ℕ, zero, suc, ◌+◌, ◌*◌, ◌≤◌}
use native.Mathlib.Nat.{add_comm, mul-add, mul-le-mul_left, one-mul}
use native.Mathlib.Omega.{arith}
use lib.Dec.{eqb, leb}
use borrow.Author.Tests.{leb-true, le-leb, eqb-true}
use Rattle.model.specs.Types.{Stripe, Claim, Leas, Most, Strp, Turn}
use Rattle.model.specs.Limits.{variables, greatest_links}
use Rattle.model.specs.Lists.{some}
use Rattle.model.specs.Facts.{Facts, lo, hi, non_empty}
use Rattle.model.specs.Follows.{by_ranges, same_sides, covers, at_once, is_link, over_y, over_z, through_link, follows, claim_follows, first_lost, lost_along}
use Rattle.model.proofs.Tests.{or_cases, and_left, and_right, all-below}
use Rattle.model.proofs.Meaning.{Holds, AllHold, Met}

-- what each stripe that passes shows, a list in which some stripe passes shows
some_holds : (val : ℕ → ℕ) {P : Type 0} (p : Stripe → Bool) (ss : List Stripe) → AllHold val ss → ((s : Stripe) → Holds val s → p s ≡ true → P) → some p ss ≡ true → P
unfolding some
some_holds val p [] h f e = absurd (false≢true e)
some_holds val p (s ∷ ss) h f e = or_cases (p s) (some p ss) e (f s h.0) (some_holds val p ss h.1 f)

-- v ≤ u − (plus − minus) carries a bound on a × (u + w) over to a × (v + w)
replaced : (a v w u plus minus p m x : ℕ) → v + plus ≤ u + minus → a * (u + w) + (p + a * minus) ≤ x + (m + a * plus) → a * (v + w) + p ≤ x + m
replaced a v w u plus minus p m x step h =
    omega (arith, mul-add a v w, mul-add a u w, mul-add a v plus, mul-add a u minus, mul-le-mul_left a step)

covered : (val : ℕ → ℕ) (g s : Stripe) → Holds val s → covers s g ≡ true → Holds val g
covered val g s h e =
    let sides : same_sides s g ≡ true = and_left _ _ e in
    let bound : g.plus + s.minus ≤ s.plus + g.minus = leb-true _ _ (and_right (same_sides s g) _ e) in
    let ex : val s.x ≡ val g.x = ap val (eqb-true _ _ (and_left _ _ (and_left _ _ sides))) in
    let ea : s.a ≡ g.a = eqb-true _ _ (and_right (eqb s.x g.x) _ (and_left _ _ sides)) in
    or_cases _ _ (and_right (eqb s.x g.x && eqb s.a g.a) _ sides)
    (λ d.
    let ey : s.y ≡ g.y = eqb-true _ _ (and_left _ _ d) in
    let ez : s.z ≡ g.z = eqb-true _ _ (and_right (eqb s.y g.y) _ d) in
    let same : s.a * (val s.y + val s.z) ≡ g.a * (val g.y + val g.z) = cc in
    omega arith)
    (λ d.
    let ey : s.y ≡ g.z = eqb-true _ _ (and_left _ _ d) in
    let ez : s.z ≡ g.y = eqb-true _ _ (and_right (eqb s.y g.z) _ d) in
    let same : s.a * (val s.y + val s.z) ≡ g.a * (val g.y + val g.z) = cc (add_comm (val g.z) (val g.y)) in
    omega arith)

module _ (val : ℕ → ℕ) (f : Facts) (h : Met val f) where
  by-ranges : (g : Stripe) → by_ranges f.ranges g ≡ true → Holds val g
  by-ranges g e =
      let y = h.ranges g.y in
      let z = h.ranges g.z in
      let x = h.ranges g.x in
      let top : val g.y + val g.z ≤ hi f.ranges g.y + hi f.ranges g.z = omega arith in
      omega (arith, leb-true, mul-le-mul_left g.a top)

  at-once : (g : Stripe) → at_once f g ≡ true → Holds val g
  at-once g e = or_cases (by_ranges f.ranges g) (some (λ (s : Stripe). covers s g) f.stripes) e (by-ranges g) (some_holds val (λ s. covers s g) f.stripes h.stripes (covered val g))

  linked : (s : Stripe) → Holds val s → is_link s ≡ true → val s.y + s.plus ≤ val s.x + s.minus
  linked s t l =
      let one : s.a * (val s.y + val s.z) ≡ val s.y + val s.z = rw (eqb-true s.a 1 (and_left _ _ l), one-mul) in
      omega arith

  through-link : (rest : Stripe → Bool) → ((g : Stripe) → rest g ≡ true → Holds val g) → (g s : Stripe) → Holds val s → through_link rest g s ≡ true → Holds val g
  through-link rest sound g s t e =
      let step = linked s t (and_left (is_link s) _ e) in
      or_cases _ _ (and_right (is_link s) _ e)
      (λ d.
      let ey : s.y ≡ g.y = eqb-true _ _ (and_left _ _ d) in
      let new : Holds val (over_y s g) = sound (over_y s g) (and_right (eqb s.y g.y) _ d) in
      replaced g.a (val g.y) (val g.z) (val s.x) s.plus s.minus g.plus g.minus (val g.x) (rw ey at step) (omega arith))
      (λ d.
      let ez : s.y ≡ g.z = eqb-true _ _ (and_left _ _ d) in
      let new : Holds val (over_z s g) = sound (over_z s g) (and_right (eqb s.y g.z) _ d) in
      rw (add_comm (val g.y) (val g.z))
      (replaced g.a (val g.z) (val g.y) (val s.x) s.plus s.minus g.plus g.minus (val g.x) (rw ez at step) (omega (arith, ap (λ (k : ℕ). g.a * k) (add_comm (val g.y) (val s.x))))))

  -- a stripe goal that follows within n links holds
  pub follows-holds : (n : ℕ) (g : Stripe) → follows f n g ≡ true → Holds val g
  unfolding follows
  follows-holds zero g e = at-once g e
  follows-holds (suc n) g e =
      or_cases (at_once f g) (some (through_link (follows f n) g) f.stripes) e (at-once g)
      (some_holds val (through_link (follows f n) g) f.stripes h.stripes (through-link (follows f n) (follows-holds n) g))

-- what a claim says of a valuation
abbrev pub ClaimHolds : (ℕ → ℕ) → Claim → Type 0
ClaimHolds val (Leas v n) = n ≤ val v
ClaimHolds val (Most v n) = val v ≤ n
ClaimHolds val (Strp s) = Holds val s
ClaimHolds val (Turn r) = Unit {0}

abbrev pub ClaimsHold : (ℕ → ℕ) → List Claim → Type 0
ClaimsHold val [] = Unit {0}
ClaimsHold val (c ∷ cs) = ClaimHolds val c × ClaimsHold val cs

module _ (val : ℕ → ℕ) (f : Facts) (h : Met val f) where
  claim-holds : (c : Claim) → claim_follows f c ≡ true → ClaimHolds val c
  unfolding claim_follows
  claim-holds (Leas v n) e = let r = h.ranges v in omega (arith, leb-true)
  claim-holds (Most v n) e = let r = h.ranges v in omega (arith, leb-true)
  claim-holds (Strp s) e = follows-holds val f h greatest_links s e
  claim-holds (Turn r) e = tt

  -- where no claim is lost, every claim holds; lines count from 1, so that 0 names none
  none-lost : (n : ℕ) (cs : List Claim) → 1 ≤ n → first_lost f n cs ≡ 0 → ClaimsHold val cs
  unfolding first_lost
  none-lost n [] i e = tt
  none-lost n (c ∷ cs) i e = go (claim_follows f c) refl e (none-lost (n + 1) cs (omega arith))
    where
      go : (b : Bool) → claim_follows f c ≡ b → cond b (first_lost f (n + 1) cs) n ≡ 0 → (first_lost f (n + 1) cs ≡ 0 → ClaimsHold val cs) → ClaimsHold val (c ∷ cs)
      go true t q rest = (claim-holds c t, rest q)
      go false t q rest = absurd (omega arith)

  -- where the facts are met no range is empty: an edge with these facts is possible
  pub is-possible : non_empty f.ranges ≡ true
  unfolding non_empty
  is-possible = all-below (λ (v : ℕ). leb (lo f.ranges v) (hi f.ranges v)) variables (λ v i. let r = h.ranges v in le-leb (lo f.ranges v) (hi f.ranges v) (omega arith))

  pub none-lost-along : (n : ℕ) (cs : List Claim) → 1 ≤ n → lost_along f n cs ≡ 0 → ClaimsHold val cs
  unfolding lost_along
  none-lost-along n cs i e = none-lost n cs i (rw is-possible at e)
