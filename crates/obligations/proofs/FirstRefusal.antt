-- The first refusal stays. Assumes nothing.
use mathlib.Core.Path.{◌≡◌, ap, ◌∙◌}
use mathlib.Core.List.{List}
use Prim.Native.Nat.{ℕ, zero, suc, ◌+◌}
use native.Mathlib.Nat.{add-zero}
use native.Mathlib.Omega.{arith}
use Rattle.model.specs.declared.answers.Refusal.{Refusal}
use Rattle.std.specs.Prelude.{Err}
use Rattle.model.specs.Limits.{today}
use Rattle.model.specs.Listing.{Point}
use Rattle.model.specs.Check.{points_judged}

pub refused-stays : (ps : List Point) (r : Refusal) (n k : ℕ) → points_judged today ps n ≡ Err r → points_judged today ps (n + k) ≡ Err r
unfolding points_judged
refused-stays ps r n zero e = ap (points_judged today ps) (add-zero n) ∙ e
refused-stays ps r n (suc k) e = go (refused-stays ps r n k e)
  where
    more : n + suc k ≡ suc (n + k)
    more = omega arith

    go : points_judged today ps (n + k) ≡ Err r → points_judged today ps (n + suc k) ≡ Err r
    go h = rw (more, h)
