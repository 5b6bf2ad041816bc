-- A stripe set among the first is set among those that are taken. Assumes nothing.
use Rattle.std.proofs.Common.{◌<◌, length, take, arith, ap, length-take}
use Rattle.std.proofs.Math.Seq.{take-set-lt}
use Rattle.std.proofs.lemmas.List.Elements.{All-set}
use Rattle.facts.specs.Sizes.{Small}
use Rattle.facts.proofs.stripes.StripeList.set.Goals as goal

pub invariant_of-self : goal.invariant_of-self
invariant_of-self c =
    let a = c.args in
    let l = c.self.inside in
    let inside : a.i < l.count = omega (arith, ap length c.self.view_is, length-take l.count l.stripes) in
    (c.self.invariant.0, rw (take-set-lt l.count l.stripes a.i a.s inside) (All-set Small (take l.count l.stripes) a.i a.s c.requires.small c.self.invariant.1))

pub returns : goal.returns
returns c =
    let a = c.args in
    let l = c.self.inside in
    let inside : a.i < l.count = omega (arith, ap length c.self.view_is, length-take l.count l.stripes) in
    rw (take-set-lt l.count l.stripes a.i a.s inside, c.self.view_is)
