-- The part of a listing that is read, or what turns the call back. Assumes nothing.
use Rattle.std.proofs.lemmas.Result.{err_from_is_err_and}
use Rattle.claim_parts.proofs.Parts.{none-refused, none-past, part-read}
use Rattle.claim_parts.proofs.claim_part.Goals as goal

pub returns-in_err-count : goal.returns-in_err-count
returns-in_err-count c =
    let p = err_from_is_err_and c.from_residual.result c.from_residual.ensures.1 in
    rw (p.1, p.2) (none-refused _ _ _ _ _ (rw c.in_err-count.was at c.read_listing.ensures))

pub returns-then-point-count : goal.returns-then-point-count
returns-then-point-count c = part-read _ _ _ _ _ (rw c.in_ok-count.was at c.read_listing.ensures) _ c.if-point-count.true (c.part_of.ensures _)

pub returns : goal.returns
returns c = none-past _ _ _ _ _ (rw c.in_ok-count.was at c.read_listing.ensures) c.if-point-count.false
