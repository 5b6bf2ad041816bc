-- The first place tells. Assumes nothing.
use Prim.Native.Nat.{ℕ}
use mathlib.Core.Path.{sym, ap, ◌∙◌}
use mathlib.Core.Bool.{true, false, not}
use Rattle.model.specs.declared.answers.Refusal.TheVariants.{EmptyStart}
use Rattle.std.specs.Prelude.{Err}
use Rattle.model.specs.Facts.{Facts, non_empty}
use Rattle.reader.proofs.WholeListing.{starts-as}
use Rattle.reader.proofs.whole.start_judged.Goals as goal

pub returns-then-is_possible : goal.returns-then-is_possible
returns-then-is_possible c =
    starts-as c.args.rows.now c.args.at.now 0 c.args.n c.requires.1 false (ap not (sym c.if-is_possible.true ∙ c.is_possible.ensures ∙ ap (λ (f : Facts). non_empty f.ranges) c.facts_at.ensures))

pub returns : goal.returns
returns c =
    ap (λ (l : ℕ). Err (EmptyStart l)) c.line_of.ensures
    ∙ starts-as c.args.rows.now c.args.at.now 0 c.args.n c.requires.1 true (ap not (sym c.if-is_possible.false ∙ c.is_possible.ensures ∙ ap (λ (f : Facts). non_empty f.ranges) c.facts_at.ensures))
