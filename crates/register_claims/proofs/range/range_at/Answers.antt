-- The loop keeps the range of the claims passed. Assumes nothing.
use mathlib.Core.Path.{◌≡◌, ◌∙◌}
use native.Mathlib.Omega.{arith}
use native.Mathlib.Numerals.{add-one}
use Rattle.register_claims.proofs.ClaimedRange.{held_none, held_next, held_all}
use Rattle.register_claims.proofs.range.range_at.Goals as goal

pub loop-j-init : goal.loop-j-init
loop-j-init c = held_none _ _ _ c.requires.1 _ c.unclaimed-r.ensures

pub loop-j-preserved : goal.loop-j-preserved
loop-j-preserved c =
    let l = c.loop-j in
    let limited = c.requires.0.point.claims.limited l.j (omega (arith, c.claims_of-n.ensures)) in
    rw (add-one l.j, c.range_after-r.ensures, c.claim_at.ensures) (held_next _ _ _ l.j c.requires.1 (rw c.first_of-from.ensures limited) _ l.invariant)

pub returns : goal.returns
returns c =
    let e : c.loop-j.j ≡ c.claims_of-n.result = omega arith in
    held_all _ _ _ _ _ _ _ c.first_of-from.ensures (e ∙ c.claims_of-n.ensures) c.loop-j.invariant
