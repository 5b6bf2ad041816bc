-- The stripes are asked where the ranges alone do not show the goal. Assumes nothing.
use Rattle.std.proofs.Common.{◌∙◌}
use Rattle.model.specs.declared.claims.Stripe.{Stripe}
use Rattle.model.specs.Transfer.{stripe}
use Rattle.model.specs.Follows.{covers}
use Rattle.goal_search.proofs.SomeElement.{any-some}
use Rattle.goal_search.proofs.at_once.shown.Goals as goal

pub returns : goal.returns
returns g c =
    let a = c.args in
    rw (← c.ranges_show.ensures, c.if-ranges_show.false) (c.stands.ensures ∙ any-some (λ (s : Stripe). covers s (stripe a.x a.a a.y a.z a.plus a.minus)) a.known.now.stripes)
