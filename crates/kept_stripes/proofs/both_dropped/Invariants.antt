-- Of the stripes that are passed, those that name neither are kept. Assumes nothing.
use Rattle.std.proofs.Common.{◌≡◌, ◌≤◌, not, ◌||◌, length, take}
use Rattle.model.specs.declared.claims.Stripe.{Stripe}
use Rattle.model.specs.Lists.{kept}
use Rattle.model.specs.Transfer.{names}
use Rattle.kept_stripes.proofs.both_dropped.Given as goal

abbrev pub invariant-loop-s : goal.invariant-loop-s
invariant-loop-s l = (length l.new ≤ l.s-index) × (l.new ≡ kept (λ (s : Stripe). not (names l.d s || names l.e s)) (take l.s-index l.s-items))
