-- Each test in the model's order. Assumes nothing.
use Prim.Native.Nat.{ℕ}
use mathlib.Core.Path.{refl, sym, ap, ◌∙◌}
use Rattle.model.specs.declared.answers.Refusal.TheVariants.{TooManyPoints}
use Rattle.std.specs.Prelude.{Err}
use Rattle.std.proofs.lemmas.Result.{err_from_is_err_and}
use Rattle.reader.proofs.WholeListing.{whole_open, whole-many, whole-few, refused-first, refused-second, accepted-both}
use Rattle.reader.proofs.whole.whole_judged.Goals as goal

pub returns-then-q-ne0 : goal.returns-then-q-ne0
returns-then-q-ne0 c ps cs h is = whole_open _ _ _ ps cs h _ is c.if-q-ne0.true

pub returns-then-n-gt-GREATEST_POINTS : goal.returns-then-n-gt-GREATEST_POINTS
returns-then-n-gt-GREATEST_POINTS c ps cs h is = ap (λ (l : ℕ). Err (TooManyPoints l)) c.line_of.ensures ∙ whole-many _ _ _ ps cs h _ is c.if-q-ne0.false c.if-n-gt-GREATEST_POINTS.true

pub returns-in_err-targets_exist : goal.returns-in_err-targets_exist
returns-in_err-targets_exist c ps cs h is =
    let p = err_from_is_err_and c.from_residual.result c.from_residual.ensures.1 in
    rw (p.1, p.2) (refused-first _ _ _ _ (sym c.targets_exist.ensures ∙ c.in_err-targets_exist.was)
    ∙ whole-few _ _ _ ps cs h _ is c.if-q-ne0.false c.if-n-gt-GREATEST_POINTS.false _ refl)

pub returns-in_err-last_judged : goal.returns-in_err-last_judged
returns-in_err-last_judged c ps cs h is =
    let p = err_from_is_err_and c.from_residual-in_err-last_judged.result c.from_residual-in_err-last_judged.ensures.1 in
    rw (p.1, p.2) (refused-second _ _ _ _ _ (sym c.targets_exist.ensures ∙ c.in_ok-targets_exist.was) (sym c.last_judged.ensures ∙ c.in_err-last_judged.was)
    ∙ whole-few _ _ _ ps cs h _ is c.if-q-ne0.false c.if-n-gt-GREATEST_POINTS.false _ refl)

pub returns : goal.returns
returns c ps cs h is =
    c.start_judged.ensures
    ∙ accepted-both _ _ _ _ _ (sym c.targets_exist.ensures ∙ c.in_ok-targets_exist.was) (sym c.last_judged.ensures ∙ c.in_ok-last_judged.was)
    ∙ whole-few _ _ _ ps cs h _ is c.if-q-ne0.false c.if-n-gt-GREATEST_POINTS.false _ refl
