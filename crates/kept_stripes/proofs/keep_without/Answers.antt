-- A stripe that does not name d is added, and any other is not. Assumes nothing.
use Rattle.std.proofs.Common.{Bool, not, length-append, append-nil, sym, ap, ◌∙◌, arith}
use Rattle.model.specs.declared.claims.Stripe.{Stripe}
use Rattle.model.specs.Lists.{kept}
use Rattle.model.specs.Transfer.{stripe, names}
use Rattle.kept_stripes.proofs.Kept.{kept-pushed, kept-skipped}
use Rattle.kept_stripes.proofs.keep_without.Goals as goal
use Rattle.kept_stripes.proofs.keep_without.Goals.{then-not-names, else-not-names}

pub loop-s-init : goal.loop-s-init
unfolding kept
loop-s-init c = (omega arith, sym (append-nil c.args.new.now))

pub loop-s-preserved : goal.loop-s-preserved
loop-s-preserved c =
    let at = c.loop-s in
    let ss = c.stripes-s-items.result.now in
    let old = c.args.new.now in
    let p : Stripe → Bool = λ (s : Stripe). not (names c.args.d s) in
    elim c.if-not-names.branch [
      | then-not-names w ↦
          let same = w.new-is ∙ w.push.ensures in
          (rw same (simp length-append (omega arith)), same ∙ kept-pushed p ss at.s-index (stripe 0 0 0 0 0 0) c.loop-s-test.true old at.new at.invariant.1 (ap not (sym c.names.ensures ∙ w.if-not-names.true)))
      | else-not-names w ↦
          (rw w.new-is (omega arith), w.new-is ∙ kept-skipped p ss at.s-index (stripe 0 0 0 0 0 0) c.loop-s-test.true old at.new at.invariant.1 (ap not (sym c.names.ensures ∙ w.if-not-names.false)))
    ]
