-- The range of one variable, claim by claim, is that of the facts. Assumes nothing.
use mathlib.Core.Path.{◌≡◌, sym, ap, ◌∙◌}
use mathlib.Core.Bool.{Bool, true, false, cond}
use mathlib.Core.List.{List}
use Prim.Native.Nat.{ℕ, suc, ◌+◌, ◌≤◌, ◌<◌}
use native.Mathlib.Omega.{arith}
use native.Mathlib.Decide.{ℕ_discrete}
use lib.ListN.{length, set}
use lib.Seq.{get_or-set_same, get_or-set_other}
use lib.Dec.{eqb, ltb}
use borrow.Author.Tests.{eq-eqb, ne_eqb, lt-ltb}
use Rattle.model.specs.declared.claims.Range.{Range}
use Rattle.model.specs.declared.claims.Claim.{Claim}
use Rattle.model.specs.declared.claims.Claim.TheVariants.{Leas, Most, Strp, Turn}
use Rattle.model.specs.Limits.{registers, MAX}
use Rattle.model.specs.Facts.{between, exactly, register_range, size_range, unclaimed_range, Facts, range_of, lo, hi, with_claim, facts_of}
use Rattle.model.specs.Limited.{ClaimLimited}
use Rattle.model.proofs.Facts.{facts-long, unclaimed-ends}
use Rattle.line_rows.specs.declared.rows.Row.{Row}
use Rattle.line_rows.specs.Rows.{row_at}
use Rattle.decoded.specs.Decoded.{claim_from, claims_from}
use Rattle.decoded.proofs.Claims.{claims-none}
use Rattle.reader.proofs.GatheredClaims.{facts-next}
use Rattle.register_claims.specs.Claimed.{range_after}

-- the range is that of the facts, and its high end a value of a register
pub record Held (r : Range) (f : Facts) (v : ℕ) : Type 0 where
  pub low : r.lo ≡ lo f.ranges v
  pub high : r.hi ≡ hi f.ranges v
  pub small : r.hi ≤ MAX

-- the unclaimed end of a variable is a value of a register
top_small : (v : ℕ) → (unclaimed_range v).hi ≤ MAX
top_small v = go (ltb v registers)
  where
    go : (b : Bool) → (cond b register_range size_range).hi ≤ MAX
    go true = omega arith
    go false = omega arith

-- nothing claimed
pub held_none : (rows : List Row) (from v : ℕ) → v < registers → (r : Range) → r ≡ unclaimed_range v → Held r (facts_of (claims_from rows from 0)) v
unfolding facts_of
held_none rows from v h r e =
    let ends = unclaimed-ends v (omega arith) in
    let few : ltb v registers ≡ true = lt-ltb v registers h in
    let low : (unclaimed_range v).lo ≡ 0 = rw few in
    rw (e, claims-none rows from) (record { low = low ∙ sym ends.0; high = sym ends.1; small = top_small v })

module _ (f : Facts) (v : ℕ) (inside : v < length f.ranges) where
  -- a range set at u
  set_there : (u : ℕ) (r : Range) → u ≡ v → range_of (set f.ranges u r) v ≡ r
  set_there u r e = rw e (get_or-set_same f.ranges v r (exactly 0) inside)

  set-elsewhere : (u : ℕ) (r : Range) → (u ≡ v → ⊥) → range_of (set f.ranges u r) v ≡ range_of f.ranges v
  set-elsewhere u r n = get_or-set_other f.ranges u v r (exactly 0) (λ e. n (sym e))

  -- one claim more
  held_more : (c : Claim) → ClaimLimited c → (r : Range) → Held r f v → Held (range_after c v r) (with_claim f c) v
  held_more (Leas u n) t r h = go (ℕ_discrete u v)
    where
      go : Dec (u ≡ v) → Held (cond (eqb u v) (between n r.hi) r) (with_claim f (Leas u n)) v
      go (yes e) =
          let there = set_there u (between n (hi f.ranges u)) e in
          let same : r.hi ≡ hi f.ranges u = h.high ∙ ap (hi f.ranges) (sym e) in
          rw (eq-eqb u v e) (record { low = sym (ap (λ (x : Range). x.lo) there); high = same ∙ sym (ap (λ (x : Range). x.hi) there); small = h.small })
      go (no e) =
          let other = set-elsewhere u (between n (hi f.ranges u)) e in
          rw (ne_eqb u v e) (record { low = h.low ∙ sym (ap (λ (x : Range). x.lo) other); high = h.high ∙ sym (ap (λ (x : Range). x.hi) other); small = h.small })
  held_more (Most u n) t r h = go (ℕ_discrete u v)
    where
      go : Dec (u ≡ v) → Held (cond (eqb u v) (between r.lo n) r) (with_claim f (Most u n)) v
      go (yes e) =
          let there = set_there u (between (lo f.ranges u) n) e in
          let same : r.lo ≡ lo f.ranges u = h.low ∙ ap (lo f.ranges) (sym e) in
          rw (eq-eqb u v e) (record { low = same ∙ sym (ap (λ (x : Range). x.lo) there); high = sym (ap (λ (x : Range). x.hi) there); small = let most = t.1 in let top = top_small u in omega arith })
      go (no e) =
          let other = set-elsewhere u (between (lo f.ranges u) n) e in
          rw (ne_eqb u v e) (record { low = h.low ∙ sym (ap (λ (x : Range). x.lo) other); high = h.high ∙ sym (ap (λ (x : Range). x.hi) other); small = h.small })
  held_more (Strp s) t r h = record { low = h.low; high = h.high; small = h.small }
  held_more (Turn q) t r h = h

-- the claim of one row more
pub held_next : (rows : List Row) (from v n : ℕ) → v < registers → ClaimLimited (claim_from (row_at rows (from + n))) → (r : Range) → Held r (facts_of (claims_from rows from n)) v
    → Held (range_after (claim_from (row_at rows (from + n))) v r) (facts_of (claims_from rows from (suc n))) v
held_next rows from v n h t r k =
    rw (facts-next rows from n)
    (held_more (facts_of (claims_from rows from n)) v (omega (arith, facts-long (claims_from rows from n))) (claim_from (row_at rows (from + n))) t r k)

-- and of all rows
pub held_all : (rows : List Row) (v from n from' n' : ℕ) (r : Range) → from ≡ from' → n ≡ n' → Held r (facts_of (claims_from rows from n)) v
    → (r.lo ≡ lo (facts_of (claims_from rows from' n')).ranges v) × (r.hi ≡ hi (facts_of (claims_from rows from' n')).ranges v) × (r.hi ≤ MAX)
held_all rows v from n from' n' r e f h = rw (← e, ← f) (h.low, h.high, h.small)
