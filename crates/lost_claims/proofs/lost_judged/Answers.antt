-- Every claim before the j-th follows. Assumes nothing.
use Rattle.std.proofs.Common.{sym, ◌∙◌, add-one}
use Rattle.lost_claims.proofs.LostClaims.{lost-none, lost-kept, first-judged}
use Rattle.lost_claims.proofs.lost_judged.Goals as goal

pub loop-j-init : goal.loop-j-init
loop-j-init c = lost-none c.args.rows.now c.args.known.now c.args.from

pub returns-then-not-claim_follows_with_low_words : goal.returns-then-not-claim_follows_with_low_words
returns-then-not-claim_follows_with_low_words c =
    let a = c.args in
    first-judged a.rows.now a.known.now a.from c.loop-j.j c.claim_at.result c.claim_at.ensures c.loop-j.invariant a.line a.n c.loop-j-test.true (sym c.claim_follows_with_low_words.ensures ∙ c.if-not-claim_follows_with_low_words.true)

pub loop-j-preserved : goal.loop-j-preserved
loop-j-preserved c =
    let a = c.args in
    rw (add-one c.loop-j.j) (lost-kept a.rows.now a.known.now a.from c.loop-j.j c.claim_at.result c.claim_at.ensures c.loop-j.invariant (sym c.claim_follows_with_low_words.ensures ∙ c.if-not-claim_follows_with_low_words.false))
