-- The links are those among the stripes that are passed. Assumes nothing.
use Rattle.std.proofs.Common.{take, refl, sym, ◌∙◌, arith}
use Rattle.std.proofs.lemmas.List.{take_more}
use Rattle.model.specs.Lists.{some}
use Rattle.model.specs.Transfer.{stripe}
use Rattle.edge_links.specs.Links.{Gathered}
use Rattle.edge_links.proofs.BetterLinks.{gathered-passed, gathered-added}
use Rattle.edge_links.proofs.links.gather.Goals as goal
use Rattle.edge_links.proofs.links.gather.Goals.{then-is_link, else-is_link}

pub loop-s-init : goal.loop-s-init
unfolding some
loop-s-init c = rw c.clear.ensures (omega arith, λ p lasting. refl)

pub loop-s-preserved : goal.loop-s-preserved
loop-s-preserved c =
    let at = c.loop-s in
    let ss = c.as_slice-s-items.result.now in
    let known : Gathered at.links (take at.s-index ss) = at.invariant.1 in
    rw (take_more ss at.s-index (stripe 0 0 0 0 0 0) c.loop-s-test.true)
    (elim c.if-is_link.branch [
      | then-is_link w ↦ rw w.links-is (omega (arith, w.add.ensures.few), gathered-added at.links (take at.s-index ss) _ known w.add.new.links (sym c.is_link.ensures ∙ w.if-is_link.true) w.add.ensures.added)
      | else-is_link w ↦ rw w.links-is (omega arith, gathered-passed at.links (take at.s-index ss) _ known (sym c.is_link.ensures ∙ w.if-is_link.false))
    ])
