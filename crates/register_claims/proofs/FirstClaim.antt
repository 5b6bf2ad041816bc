-- The TURN of claims that rows hold: it is that of the first row. Assumes nothing.
use mathlib.Core.Path.{◌≡◌, refl, sym, ap, ◌∙◌}
use mathlib.Core.List.{List, [], ◌∷◌, ◌++◌}
use Prim.Native.Nat.{ℕ, zero, suc, ◌+◌, ◌≤◌, ◌<◌}
use native.Mathlib.Nat.{add-zero, not-suc-le-zero}
use native.Mathlib.Omega.{arith}
use lib.ListN.{length}
use Rattle.model.specs.declared.claims.Claim.{Claim}
use Rattle.model.specs.declared.claims.Claim.TheVariants.{Leas, Most, Strp, Turn}
use Rattle.std.specs.Prelude.{Option, IfSome}
use Rattle.model.specs.Limits.{registers}
use Rattle.model.specs.Limited.{ClaimLimited}
use Rattle.model.specs.Bound.{turn_among}
use Rattle.line_rows.specs.declared.rows.Row.{Row}
use Rattle.line_rows.specs.Rows.{row_at}
use Rattle.decoded.specs.Decoded.{claim_from, claims_from}
use Rattle.decoded.proofs.Claims.{claims-none, claims-next, claims-count}
use Rattle.rows_and_places.specs.Points.{ClaimRows}

-- a claim behind others does not tell
turn-snoc : (cs : List Claim) (c : Claim) → 1 ≤ length cs → turn_among (cs ++ (c ∷ [])) ≡ turn_among cs
turn-snoc [] c h = absurd (not-suc-le-zero h)
turn-snoc (Leas v n ∷ cs) c h = refl
turn-snoc (Most v n ∷ cs) c h = refl
turn-snoc (Strp s ∷ cs) c h = refl
turn-snoc (Turn r ∷ cs) c h = refl

module _ (rows : List Row) (from : ℕ) where
  pub turn-none : turn_among [] ≡ turn_among (claims_from rows from 0)
  turn-none = rw (claims-none rows from)

  turn-first : (n : ℕ) → turn_among (claims_from rows from (suc n)) ≡ turn_among (claim_from (row_at rows from) ∷ [])
  turn-first zero = ap turn_among (claims-next rows from 0) ∙ rw (claims-none rows from, add-zero from)
  turn-first (suc n) = ap turn_among (claims-next rows from (suc n)) ∙ turn-snoc (claims_from rows from (suc n)) _ (omega (arith, claims-count rows from (suc n))) ∙ turn-first n

-- the register of a TURN is one
turn-limited : (c : Claim) → ClaimLimited c → IfSome (turn_among (c ∷ [])) (λ r. r < registers)
turn-limited (Leas v n) h = tt
turn-limited (Most v n) h = tt
turn-limited (Strp s) h = tt
turn-limited (Turn r) h = h

module _ (rows : List Row) (from n : ℕ) (held : ClaimRows rows from n) (some : n ≡ 0 → ⊥) where
  -- what the first of some rows tells is the TURN of all, and a register
  pub turn-told : (t : Option ℕ) → t ≡ turn_among (claim_from (row_at rows from) ∷ []) → (t ≡ turn_among (claims_from rows from n)) × IfSome t (λ r. r < registers)
  turn-told t e =
      let limited : ClaimLimited (claim_from (row_at rows (from + 0))) = held.limited 0 (omega (arith, some)) in
      (go n some, rw e (turn-limited (claim_from (row_at rows from)) (rw (add-zero from) at limited)))
    where
      go : (m : ℕ) → (m ≡ 0 → ⊥) → t ≡ turn_among (claims_from rows from m)
      go zero h = absurd (h refl)
      go (suc m) h = e ∙ sym (turn-first rows from m)
