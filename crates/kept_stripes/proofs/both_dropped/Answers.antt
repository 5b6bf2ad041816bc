-- A stripe that names neither is kept; that is the one dropped after the other. Assumes nothing.
use Rattle.std.proofs.Common.{◌≡◌, Bool, not, ◌||◌, [], length-append, refl, sym, ap, ◌∙◌, arith, take}
use Rattle.std.proofs.lemmas.List.{take_all}
use Rattle.model.specs.declared.claims.Stripe.{Stripe}
use Rattle.model.specs.Lists.{kept}
use Rattle.model.specs.Transfer.{stripe, names}
use Rattle.kept_stripes.proofs.Kept.{kept-pushed, kept-skipped, kept-twice}
use Rattle.kept_stripes.proofs.both_dropped.Goals as goal
use Rattle.kept_stripes.proofs.both_dropped.Goals.{then-not-names_either, else-not-names_either}

pub loop-s-init : goal.loop-s-init
unfolding kept
loop-s-init c = rw c.clear.ensures (omega arith, refl)

pub loop-s-preserved : goal.loop-s-preserved
loop-s-preserved c =
    let at = c.loop-s in
    let ss = c.stripes-s-items.result.now in
    let p : Stripe → Bool = λ (s : Stripe). not (names c.args.d s || names c.args.e s) in
    elim c.if-not-names_either.branch [
      | then-not-names_either w ↦
          let same = w.new-is ∙ w.push.ensures in
          (rw same (simp length-append (omega arith)), same ∙ kept-pushed p ss at.s-index (stripe 0 0 0 0 0 0) c.loop-s-test.true [] at.new at.invariant.1 (ap not (sym c.names_either.ensures ∙ w.if-not-names_either.true)))
      | else-not-names_either w ↦
          (rw w.new-is (omega arith), w.new-is ∙ kept-skipped p ss at.s-index (stripe 0 0 0 0 0 0) c.loop-s-test.true [] at.new at.invariant.1 (ap not (sym c.names_either.ensures ∙ w.if-not-names_either.false)))
    ]

pub returns : goal.returns
returns c =
    let a = c.args in
    let ss = c.stripes-s-items.result.now in
    let all : take c.loop-s.s-index ss ≡ a.p.now.stripes = take_all c.loop-s.s-index ss c.loop-s-test.false ∙ c.stripes-s-items.ensures.same in
    rw all at c.loop-s.invariant.1 ∙ kept-twice (names a.d) (names a.e) a.p.now.stripes
