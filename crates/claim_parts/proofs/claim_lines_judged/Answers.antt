use Rattle.std.proofs.lemmas.Result.{err_from_is_err_and}
use Rattle.claim_parts.proofs.Parts.{judged-ok, judged-err}
use Rattle.claim_parts.proofs.claim_lines_judged.Goals as goal

pub returns-in_err-claim_part : goal.returns-in_err-claim_part
returns-in_err-claim_part c =
    let p = err_from_is_err_and c.from_residual.result c.from_residual.ensures.1 in
    rw (p.1, p.2) (judged-err _ _ _ c.claim_part.ensures _ c.in_err-claim_part.was)

pub returns : goal.returns
returns c = judged-ok _ _ _ c.claim_part.ensures _ c.in_ok-claim_part.was
