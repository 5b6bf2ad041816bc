-- What the accepted test of the backward edges gives, for the register that counts the rounds, and the bound by it. Assumes nothing.
use Prim.Native.Nat.{ℕ, zero, suc, ◌+◌, ◌*◌, ◌≤◌, ◌<◌}
use mathlib.Core.Path.{◌≡◌, refl, sym, ap, ◌∙◌}
use mathlib.Core.Bool.{Bool, true, false, not, ◌&&◌, cond, false≢true}
use mathlib.Core.List.{List, [], ◌∷◌}
use native.Mathlib.Nat.{not-suc-le-zero, le_of_suc-le-suc}
use native.Mathlib.Omega.{arith}
use native.Mathlib.Decide.{ℕ_discrete, dec_lt}
use native.Mathlib.Numerals.{add-one}
use lib.ListN.{length, get_or, get_or-eq_default}
use lib.Dec.{leb, eqb}
use borrow.Author.Tests.{eqb-true, le-leb, not-true}
use Rattle.model.specs.declared.claims.Claim.{Claim}
use Rattle.model.specs.declared.claims.Claim.TheVariants.{Leas, Most, Strp, Turn}
use Rattle.model.specs.Types.{accepted}
use Rattle.std.specs.Prelude.{Option, None, Some}
use Rattle.model.specs.Limits.{registers}
use Rattle.model.specs.Lists.{every, some, among}
use Rattle.model.specs.Instructions.{targets, is_jump}
use Rattle.model.specs.Listing.{Point, point_at}
use Rattle.model.specs.Limited.{ClaimLimited}
use Rattle.model.specs.Bound.{turn_among, turn_of, goes_back, is_target, writes_to, only_takes, written_before, covered, edge_covered, edges_covered, any_goes_back, rounds_of, bound_of}
use Rattle.model.proofs.Tests.{and_left, and_right, or_cases, or-false, or-true}
use Rattle.model.proofs.Lists.{All}
use Rattle.model.proofs.Reading.{both-accepted, test-passed}

-- ---- lists

module _ {A : Type 0} where
  -- an element that passes
  some_at : (f : A → Bool) (xs : List A) (d : A) (i : ℕ) → i < length xs → f (get_or xs i d) ≡ true → some f xs ≡ true
  unfolding some
  some_at f [] d i h e = absurd (not-suc-le-zero h)
  some_at f (x ∷ xs) d zero h e = rw e
  some_at f (x ∷ xs) d (suc i) h e = or-true (f x) (some_at f xs d i (le_of_suc-le-suc h) e)

-- a number of the list that passes
some-among : (f : ℕ → Bool) (u : ℕ) (l : List ℕ) → among u l ≡ true → f u ≡ true → some f l ≡ true
unfolding some
some-among f u [] i e = i
some-among f u (x ∷ l) i e =
    or_cases (eqb u x) (some (eqb u) l) i
    (λ h. let g : f x ≡ true = ap f (sym (eqb-true u x h)) ∙ e in rw g)
    (λ h. or-true (f x) (some-among f u l h e))

-- ---- backward edges

-- the p-th point has a backward edge
abbrev pub back : List Point → ℕ → Bool
back ps p = goes_back p (point_at ps p).instruction

-- a target that is no later point makes its edge a backward one
pub target-back : (ps : List Point) (p u : ℕ) → among u (targets (point_at ps p).instruction) ≡ true → u ≤ p → back ps p ≡ true
target-back ps p u i h = some-among (λ t. leb t p) u (targets (point_at ps p).instruction) i (le-leb u p h)

-- a register, which what writes it only takes from
abbrev pub Takes : List Point → Option ℕ → Type 0
Takes ps None = Unit {0}
Takes ps (Some r) = (r < registers) × (every (only_takes r) ps ≡ true)

-- the register that counts the rounds covers every backward edge; without one there is none
pub record Covers (ps : List Point) (t : Option ℕ) : Type 0 where
  pub edges : (p : ℕ) → back ps p ≡ true → covered ps t p ≡ true
  pub takes : Takes ps t

-- what being covered asks of the point
record AtBack (ps : List Point) (r p : ℕ) : Type 0 where
  untargeted : is_target ps p ≡ false
  before : written_before ps r p ≡ true
  only : every (only_takes r) ps ≡ true

-- the parts of the test
at_back : (ps : List Point) (r p : ℕ) → covered ps (Some r) p ≡ true → AtBack ps r p
unfolding covered
at_back ps r p e =
    let jump = is_jump (point_at ps p).instruction in
    let free = not (is_target ps p) in
    let three : (jump && free && written_before ps r p) ≡ true = and_left (jump && free && written_before ps r p) _ e in
    record {
      untargeted = not-true (is_target ps p) (and_right jump free (and_left (jump && free) _ three));
      before = and_right (jump && free) _ three;
      only = and_right (jump && free && written_before ps r p) _ e;
    }

-- each backward edge of the first n points is covered by the register of the TURN line
each-covered : (ps : List Point) (n : ℕ) → edges_covered ps n ≡ accepted → (p : ℕ) → p < n → back ps p ≡ true → covered ps (turn_of ps) p ≡ true
unfolding edges_covered
each-covered ps zero e p h b = absurd (not-suc-le-zero h)
each-covered ps (suc n) e p h b = go (ℕ_discrete p n) (each-covered ps n (both-accepted (edges_covered ps n) _ e).0 p)
  where
    go : Dec (p ≡ n) → (p < n → back ps p ≡ true → covered ps (turn_of ps) p ≡ true) → covered ps (turn_of ps) p ≡ true
    go (yes q) f =
        let last : edge_covered ps p (point_at ps p) ≡ accepted = rw q (both-accepted (edges_covered ps n) _ e).1 in
        test-passed (covered ps (turn_of ps) p) _ (rw b at last)
    go (no q) f = f (omega arith) b

-- no point past the last has a backward edge
back_inside : (ps : List Point) (p : ℕ) → back ps p ≡ true → p < length ps
unfolding some
back_inside ps p b = go (dec_lt p (length ps))
  where
    go : Dec (p < length ps) → p < length ps
    go (yes h) = h
    go (no h) =
        let none : back ps p ≡ false = ap (λ (q : Point). goes_back p q.instruction) (get_or-eq_default ps _ (omega arith)) in
        absurd (false≢true (sym none ∙ b))

-- the test that none of the first n points has a backward edge, at one of them
none-back : (ps : List Point) (n : ℕ) → any_goes_back ps n ≡ false → (p : ℕ) → p < n → back ps p ≡ false
unfolding any_goes_back
none-back ps zero e p h = absurd (not-suc-le-zero h)
none-back ps (suc n) e p h = go (ℕ_discrete p n) (none-back ps n (or-false (any_goes_back ps n) _ e).0 p)
  where
    go : Dec (p ≡ n) → (p < n → back ps p ≡ false) → back ps p ≡ false
    go (yes q) f = rw q (or-false (any_goes_back ps n) _ e).1
    go (no q) f = f (omega arith)

-- where one of them has, which
one-back : (ps : List Point) (n : ℕ) → any_goes_back ps n ≡ true → (p : ℕ) × (back ps p ≡ true)
unfolding any_goes_back
one-back ps zero e = absurd (false≢true e)
one-back ps (suc n) e = or_cases (any_goes_back ps n) _ e (one-back ps n) (λ b. (n, b))

-- the register of a TURN within its limits
turn-register : (cs : List Claim) (r : ℕ) → All ClaimLimited cs → turn_among cs ≡ Some r → r < registers
turn-register [] r h e = let z : ◌≡◌ {A = ℕ} 0 1 = cc in absurd (omega arith)
turn-register (Leas v n ∷ cs) r h e = let z : ◌≡◌ {A = ℕ} 0 1 = cc in absurd (omega arith)
turn-register (Most v n ∷ cs) r h e = let z : ◌≡◌ {A = ℕ} 0 1 = cc in absurd (omega arith)
turn-register (Strp s ∷ cs) r h e = let z : ◌≡◌ {A = ℕ} 0 1 = cc in absurd (omega arith)
turn-register (Turn q ∷ cs) r h e = let same : q ≡ r = cc in rw same at h.0

-- ---- the register that counts the rounds

-- it is that of the TURN line, where something goes back
abbrev pub counting : List Point → Option ℕ
counting ps = cond (any_goes_back ps (length ps)) (turn_of ps) None

module _ (ps : List Point) (all-covered : edges_covered ps (length ps) ≡ accepted) (limited : All ClaimLimited (point_at ps 0).claims) where
  -- one covered edge shows it for every instruction that writes the register
  takes-only : (t : Option ℕ) → turn_of ps ≡ t → (p : ℕ) → covered ps t p ≡ true → Takes ps t
  takes-only None e p c = tt
  takes-only (Some r) e p c = (turn-register (point_at ps 0).claims r limited e, (at_back ps r p c).only)

  -- it covers every backward edge
  pub covers : Covers ps (counting ps)
  covers = go (any_goes_back ps (length ps)) refl
    where
      go : (b : Bool) → any_goes_back ps (length ps) ≡ b → Covers ps (cond b (turn_of ps) None)
      go true e =
          let edges : (p : ℕ) → back ps p ≡ true → covered ps (turn_of ps) p ≡ true = λ p b. each-covered ps (length ps) all-covered p (back_inside ps p b) b in
          let one = one-back ps (length ps) e in
          record { edges = edges; takes = takes-only (turn_of ps) refl one.0 (edges one.0 one.1) }
      go false e = record { edges = λ p b. absurd (false≢true (sym (none-back ps (length ps) e p (back_inside ps p b)) ∙ b)); takes = tt }

-- the bound is a listing's length for each round
pub bound-rounds : (ps : List Point) → bound_of ps ≡ length ps * rounds_of ps (counting ps)
unfolding bound_of
bound-rounds ps = go (any_goes_back ps (length ps))
  where
    go : (b : Bool) → cond b (length ps * rounds_of ps (turn_of ps)) (length ps) ≡ length ps * rounds_of ps (cond b (turn_of ps) None)
    go true = refl
    go false = omega arith

-- ---- points without a backward edge

module _ (ps : List Point) where
  -- what a backward edge would refute
  no-back : (p : ℕ) → (back ps p ≡ true → ⊥) → back ps p ≡ false
  no-back p h = go (back ps p) refl
    where
      go : (b : Bool) → back ps p ≡ b → b ≡ false
      go false e = refl
      go true e = absurd (h e)

  -- without a register none has one
  pub none-covered : Covers ps None → (p : ℕ) → back ps p ≡ false
  unfolding covered
  none-covered c p = no-back p (λ b. false≢true (c.edges p b))

  -- the next one after a point that does not write the register
  pub after-unwritten : (r : ℕ) → Covers ps (Some r) → (p : ℕ) → writes_to r (point_at ps p) ≡ false → back ps (p + 1) ≡ false
  after-unwritten r c p e = no-back (p + 1) (λ b. let w = (at_back ps r (p + 1) (c.edges (p + 1) b)).before in false≢true (sym e ∙ (rw add-one at w)))

  -- the first
  pub first-unwritten : (t : Option ℕ) → Covers ps t → back ps 0 ≡ false
  first-unwritten None c = none-covered c 0
  first-unwritten (Some r) c = no-back 0 (λ b. false≢true (at_back ps r 0 (c.edges 0 b)).before)

  -- a target
  pub untargeted : (t : Option ℕ) → Covers ps t → (p u : ℕ) → p < length ps → among u (targets (point_at ps p).instruction) ≡ true → back ps u ≡ false
  untargeted None c p u h i = none-covered c u
  untargeted (Some r) c p u h i =
      no-back u
      (λ b.
      let target : is_target ps u ≡ true = some_at (λ (q : Point). among u (targets q.instruction)) ps _ p h i in
      false≢true (sym (at_back ps r u (c.edges u b)).untargeted ∙ target))
