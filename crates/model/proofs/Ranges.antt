-- Ranges that hold the values of the variables, changed one at a time. Assumes nothing.
use mathlib.Core.Path.{◌≡◌, refl, ap, sym, subst₂, subst, ◌∙◌}
use mathlib.Core.Logic.{◌≢◌}
use mathlib.Core.List.{List}
use Prim.Native.Nat.{ℕ, ◌<◌}
use native.Mathlib.Omega.{arith}
use native.Mathlib.Decide.{ℕ_discrete, dec_lt}
use lib.ListN.{length, set, get_or-eq_default}
use lib.Seq.{get_or-set_same, get_or-set_other, set_out}
use Rattle.model.specs.Types.{Range}
use Rattle.model.specs.Limits.{variables, blank_variable}
use Rattle.model.specs.Facts.{exactly, range_of}
use Rattle.model.specs.Transfer.{changed}
use Rattle.model.proofs.Meaning.{InRange, InRanges}

-- val is changed at d alone
abbrev pub OnlyAt : ℕ → (ℕ → ℕ) → (ℕ → ℕ) → Type 0
OnlyAt d val val' = (v : ℕ) → v ≢ d → val' v ≡ val v

-- a new range for d that holds d's new value
pub in-set : (val val' : ℕ → ℕ) (rs : List Range) (d : ℕ) (r : Range) → d < length rs → OnlyAt d val val' → InRange (val' d) r → InRanges val rs → InRanges val' (set rs d r)
in-set val val' rs d r inside same new h v = go (ℕ_discrete v d)
  where
    go : Dec (v ≡ d) → InRange (val' v) (range_of (set rs d r) v)
    go (yes e) = subst₂ InRange (ap val' (sym e)) (sym (ap (λ (k : ℕ). range_of (set rs d r) k) e ∙ get_or-set_same rs d r (exactly 0) inside)) new
    go (no n) = subst₂ InRange (sym (same v n)) (sym (get_or-set_other rs d v r (exactly 0) n)) (h v)

-- another range for a variable whose value stays; past the list nothing is set
pub in-reset : (val : ℕ → ℕ) (rs : List Range) (v : ℕ) (r : Range) → InRange (val v) r → InRanges val rs → InRanges val (set rs v r)
in-reset val rs v r new h = go (dec_lt v (length rs))
  where
    go : Dec (v < length rs) → InRanges val (set rs v r)
    go (yes i) = in-set val val rs v r i (λ u n. refl) new h
    go (no n) = subst (InRanges val) (sym (set_out rs v r (omega arith))) h

-- a change that keeps the value of its variable
pub in-changed : (val : ℕ → ℕ) (rs : List Range) (v : ℕ) (f : Range → Range) → ((r : Range) → InRange (val v) r → InRange (val v) (f r)) → InRanges val rs → InRanges val (changed v f rs)
in-changed val rs v f keeps h = in-reset val rs v (f (range_of rs v)) (keeps (range_of rs v) (h v)) h

-- the blank variable is 0
pub blank-zero : (val : ℕ → ℕ) (rs : List Range) → length rs ≡ variables → InRanges val rs → val blank_variable ≡ 0
blank-zero val rs long h =
    let r : InRange (val blank_variable) (exactly 0) = subst (InRange (val blank_variable)) (get_or-eq_default rs (exactly 0) (omega arith)) (h blank_variable) in
    omega arith
