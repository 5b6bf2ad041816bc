-- What follows from some stripes follows from more of them. Assumes nothing.
use mathlib.Core.Path.{◌≡◌, refl}
use mathlib.Core.Bool.{Bool, true, false, ◌&&◌, cond, false≢true}
use mathlib.Core.List.{List, [], ◌∷◌}
use Prim.Native.Nat.{ℕ, zero, suc, ◌+◌, ◌≤◌}
use native.Mathlib.Omega.{arith}
use lib.Dec.{eqb}
use borrow.Author.Tests.{eqb-true}
use Rattle.model.specs.Types.{Range, Stripe, Claim, Leas, Most, Strp, Turn, ClaimMayFail, accepted}
use Rattle.model.specs.Limits.{greatest_links}
use Rattle.model.specs.Lists.{some, kept}
use Rattle.model.specs.Facts.{Facts, non_empty}
use Rattle.model.specs.Listing.{Point, first_line}
use Rattle.model.specs.Follows.{by_ranges, covers, at_once, is_link, over_y, over_z, through_link, follows, claim_follows, first_lost, lost_along}
use Rattle.model.specs.Check.{claims_judged}
use Rattle.model.proofs.Tests.{or-true, or_kept, and_kept}
use Rattle.model.proofs.Reading.{test-passed}

-- a test that some stripe of the first list passes, some of the second passes
pub record Included (ss ts : List Stripe) : Type 0 where
  pub finds : (p : Stripe → Bool) → some p ss ≡ true → some p ts ≡ true

pub included-same : (ss : List Stripe) → Included ss ss
included-same ss = record { finds = λ p e. e }

module _ {ss ts : List Stripe} (more : Included ss ts) (s : Stripe) where
  pub included-both : Included (s ∷ ss) (s ∷ ts)
  unfolding some
  included-both = record { finds = λ p e. or_kept (p s) (some p ss) (p s) (some p ts) (λ t. t) (more.finds p) e }

  pub included-more : Included ss (s ∷ ts)
  unfolding some
  included-more = record { finds = λ p e. or-true (p s) (more.finds p e) }

-- one more stripe, if it is added at all
pub included-if : (a b : Bool) (s : Stripe) (ss : List Stripe) → (a ≡ true → b ≡ true) → Included (cond a (s ∷ ss) ss) (cond b (s ∷ ss) ss)
included-if true true s ss f = included-same (s ∷ ss)
included-if true false s ss f = absurd (false≢true (f refl))
included-if false true s ss f = included-more (included-same ss) s
included-if false false s ss f = included-same ss

-- of two lists, whichever is chosen
pub included-either : (b : Bool) {ss ts : List Stripe} (us : List Stripe) → Included ss ts → Included (cond b ss us) (cond b ts us)
included-either true us more = more
included-either false us more = included-same us

-- what a stronger test keeps
pub kept-included : (p q : Stripe → Bool) → ((s : Stripe) → p s ≡ true → q s ≡ true) → (ss : List Stripe) → Included (kept p ss) (kept q ss)
unfolding kept
kept-included p q f [] = included-same []
kept-included p q f (s ∷ ss) = go (p s) (q s) (f s) (kept-included p q f ss)
  where
    go : (a b : Bool) → (a ≡ true → b ≡ true) → Included (kept p ss) (kept q ss) → Included (cond a (s ∷ kept p ss) (kept p ss)) (cond b (s ∷ kept q ss) (kept q ss))
    go true true h more = included-both more s
    go true false h more = absurd (false≢true (h refl))
    go false true h more = included-more more s
    go false false h more = more

some-implied : (p q : Stripe → Bool) → ((s : Stripe) → p s ≡ true → q s ≡ true) → (ss : List Stripe) → some p ss ≡ true → some q ss ≡ true
unfolding some
some-implied p q f [] e = e
some-implied p q f (s ∷ ss) e = or_kept (p s) (some p ss) (q s) (some q ss) (f s) (some-implied p q f ss) e

link-kept : (rest wider : Stripe → Bool) → ((g : Stripe) → rest g ≡ true → wider g ≡ true) → (g s : Stripe) → through_link rest g s ≡ true → through_link wider g s ≡ true
link-kept rest wider f g s e =
    and_kept (is_link s) _ _
    (or_kept (eqb s.y g.y && rest (over_y s g)) (eqb s.y g.z && rest (over_z s g)) (eqb s.y g.y && wider (over_y s g)) (eqb s.y g.z && wider (over_z s g))
    (and_kept (eqb s.y g.y) _ _ (f (over_y s g))) (and_kept (eqb s.y g.z) _ _ (f (over_z s g))))
    e

-- two lists of stripes beside the same ranges
module _ (rs : List Range) (ss ts : List Stripe) (more : Included ss ts) where
  abbrev fewer : Facts
  fewer = record { ranges = rs; stripes = ss }

  abbrev further : Facts
  further = record { ranges = rs; stripes = ts }

  once-kept : (g : Stripe) → at_once fewer g ≡ true → at_once further g ≡ true
  once-kept g e = or_kept (by_ranges rs g) (some (λ (s : Stripe). covers s g) ss) (by_ranges rs g) (some (λ (s : Stripe). covers s g) ts) (λ t. t) (more.finds (λ (s : Stripe). covers s g)) e

  pub follows-kept : (n : ℕ) (g : Stripe) → follows fewer n g ≡ true → follows further n g ≡ true
  unfolding follows
  follows-kept zero g e = once-kept g e
  follows-kept (suc n) g e =
      or_kept (at_once fewer g) (some (through_link (follows fewer n) g) ss) (at_once further g) (some (through_link (follows further n) g) ts) (once-kept g)
      (λ t. some-implied (through_link (follows fewer n) g) (through_link (follows further n) g) (link-kept (follows fewer n) (follows further n) (follows-kept n) g) ts (more.finds (through_link (follows fewer n) g) t))
      e

  claim-kept : (c : Claim) → claim_follows fewer c ≡ true → claim_follows further c ≡ true
  unfolding claim_follows
  claim-kept (Leas v n) e = e
  claim-kept (Most v n) e = e
  claim-kept (Strp g) e = follows-kept greatest_links g e
  claim-kept (Turn r) e = e

  -- lines count from 1, so that 0 names none
  none-lost : (n : ℕ) (cs : List Claim) → 1 ≤ n → first_lost fewer n cs ≡ 0 → first_lost further n cs ≡ 0
  unfolding first_lost
  none-lost n [] i e = refl
  none-lost n (c ∷ cs) i e = go (claim_follows fewer c) (claim_follows further c) (claim-kept c) e (none-lost (n + 1) cs (omega arith))
    where
      go : (a b : Bool) → (a ≡ true → b ≡ true) → cond a (first_lost fewer (n + 1) cs) n ≡ 0 → (first_lost fewer (n + 1) cs ≡ 0 → first_lost further (n + 1) cs ≡ 0) → cond b (first_lost further (n + 1) cs) n ≡ 0
      go true true f q rest = rest q
      go true false f q rest = absurd (false≢true (f refl))
      go false b f q rest = absurd (omega arith)

  none-lost-along : (n : ℕ) (cs : List Claim) → 1 ≤ n → lost_along fewer n cs ≡ 0 → lost_along further n cs ≡ 0
  unfolding lost_along
  none-lost-along n cs i e = go (non_empty rs) e
    where
      go : (b : Bool) → cond b (first_lost fewer n cs) 0 ≡ 0 → cond b (first_lost further n cs) 0 ≡ 0
      go true q = none-lost n cs i q
      go false q = refl

  -- the claims of a point that follow along an edge still follow
  pub claims-kept : (l : ℕ) (q : Point) → 1 ≤ first_line q → claims_judged l fewer q ≡ accepted → claims_judged l further q ≡ accepted
  claims-kept l q i e =
      let lost = lost_along fewer (first_line q) q.claims in
      let none : lost ≡ 0 = eqb-true lost 0 (test-passed (eqb lost 0) (ClaimMayFail l lost) e) in
      rw (none-lost-along (first_line q) q.claims i none) refl

-- a point without claims asks for nothing
pub no-claims : (l : ℕ) (f : Facts) (q : Point) → q.claims ≡ [] → claims_judged l f q ≡ accepted
unfolding lost_along first_lost
no-claims l f q e = rw (none (first_line q) q.claims e) refl
  where
    none : (n : ℕ) (cs : List Claim) → cs ≡ [] → lost_along f n cs ≡ 0
    none n cs e = rw e (go (non_empty f.ranges))
      where
        go : (b : Bool) → cond b (first_lost f n []) 0 ≡ 0
        go true = refl
        go false = refl
