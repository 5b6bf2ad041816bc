-- The facts are those of the claims that are passed. Assumes nothing.
use Rattle.std.proofs.Common.{◌∙◌, add-one}
use Rattle.model.specs.Limits.{greatest_stripes}
use Rattle.reader.proofs.GatheredClaims.{facts-start, facts-next, stripes-claimed, gather-room}
use Rattle.reader.proofs.point_facts.facts_of.Goals as goal

pub loop-j-init : goal.loop-j-init
loop-j-init c = c.clear.ensures ∙ facts-start c.args.rows.now c.args.from

pub claim-requires-clause-room : goal.claim-requires-clause-room
claim-requires-clause-room c =
    let a = c.args in
    let at = c.loop-j in
    rw (at.invariant, c.claim_at.ensures, stripes-claimed) (gather-room a.rows.now a.from at.j a.n greatest_stripes c.loop-j-test.true c.requires.few)

pub loop-j-preserved : goal.loop-j-preserved
loop-j-preserved c =
    let a = c.args in
    let at = c.loop-j in
    rw (add-one at.j, facts-next a.rows.now a.from at.j, ← at.invariant, ← c.claim_at.ensures) c.claim.ensures
