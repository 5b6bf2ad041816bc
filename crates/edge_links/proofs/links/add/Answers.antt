-- The three ways in which a link is added. Assumes nothing.
use Rattle.std.proofs.Common.{sym, ◌∙◌}
use Rattle.edge_links.proofs.BetterLinks.{some-more, left-out, replaced}
use Rattle.edge_links.proofs.links.add.Goals as goal

pub returns-then-not-enough-clause-added : goal.returns-then-not-enough-clause-added
returns-then-not-enough-clause-added c =
    let a = c.args in
    let found = rw c.as_slice.ensures.same at (sym c.in-Some.ensures) in
    let e = rw c.as_slice-in-Some.ensures.same at (sym c.enough.ensures ∙ c.if-not-enough.true) in
    rw c.set.ensures (replaced a.links.now a.s.now _ c.in-Some.i found e)

pub returns-else-not-enough-clause-added : goal.returns-else-not-enough-clause-added
returns-else-not-enough-clause-added c =
    let a = c.args in
    let found = rw c.as_slice.ensures.same at (sym c.in-Some.ensures) in
    let e = rw c.as_slice-in-Some.ensures.same at (sym c.enough.ensures ∙ c.if-not-enough.false) in
    left-out a.links.now a.s.now _ c.in-Some.i found e

pub returns-in-None-clause-added : goal.returns-in-None-clause-added
returns-in-None-clause-added c p lasting = rw c.push.ensures (some-more p c.args.links.now c.args.s.now)
