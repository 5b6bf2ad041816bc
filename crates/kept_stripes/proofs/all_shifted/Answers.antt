-- A stripe whose bound stays within its limits is kept, shifted. Assumes nothing.
use Rattle.std.proofs.Common.{Bool, length-append, ◌∷◌, ◌++◌, [], refl, sym, ap, ◌∙◌, arith}
use Rattle.model.specs.declared.claims.Stripe.{Stripe}
use Rattle.model.specs.Limits.{today}
use Rattle.model.specs.Lists.{kept}
use Rattle.model.specs.Transfer.{stripe, shifted, bound_in_limits}
use Rattle.kept_stripes.proofs.Kept.{made-pushed, made-skipped}
use Rattle.kept_stripes.proofs.all_shifted.Goals as goal
use Rattle.kept_stripes.proofs.all_shifted.Goals.{then-bound_in_limits, else-bound_in_limits}

pub loop-s-init : goal.loop-s-init
unfolding kept
loop-s-init c = rw c.clear.ensures (omega arith, refl)

pub loop-s-preserved : goal.loop-s-preserved
loop-s-preserved c =
    let a = c.args in
    let at = c.loop-s in
    let ss = c.stripes-s-items.result.now in
    let p : Stripe → Bool = bound_in_limits today in
    let f : Stripe → Stripe = shifted a.d a.up a.down in
    let told = rw c.shifted-t.ensures.0 at (sym c.bound_in_limits.ensures) in
    elim c.if-bound_in_limits.branch [
      | then-bound_in_limits w ↦
          let same = w.new-is ∙ w.push.ensures ∙ ap (λ (t : Stripe). at.new ++ (t ∷ [])) c.shifted-t.ensures.0 in
          (rw same (simp length-append (omega arith)), same ∙ made-pushed p f ss at.s-index (stripe 0 0 0 0 0 0) c.loop-s-test.true at.new at.invariant.1 (told ∙ w.if-bound_in_limits.true))
      | else-bound_in_limits w ↦
          (rw w.new-is (omega arith), w.new-is ∙ made-skipped p f ss at.s-index (stripe 0 0 0 0 0 0) c.loop-s-test.true at.new at.invariant.1 (told ∙ w.if-bound_in_limits.false))
    ]
