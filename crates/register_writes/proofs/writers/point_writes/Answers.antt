use mathlib.Core.Path.{sym, ap, ◌∙◌}
use mathlib.Core.Bool.{false≢true}
use borrow.Author.Tests.{eq-eqb}
use Rattle.model.specs.Lists.{among}
use Rattle.model.specs.Instructions.{writes}
use Rattle.line_rows.specs.declared.rows.Row.{Row}
use Rattle.decoded.specs.Decoded.{instruction_from}
use Rattle.register_writes.proofs.RowWrites.{unnamed-kept}
use Rattle.register_writes.proofs.writers.point_writes.Goals as goal
use Rattle.register_writes.proofs.writers.point_writes.Goals.{then-row-n, else-row-n}

pub returns-else-row-n-2 : goal.returns-else-row-n-2
returns-else-row-n-2 c =
    elim c.if-row-n.branch [
      | then-row-n w ↦ absurd (false≢true (sym c.if-row-n-2.false ∙ w.value-is ∙ eq-eqb _ _ w.if-row-n.true))
      | else-row-n w ↦
          c.if-row-n-2.false ∙ sym (unnamed-kept c.args.r _ w.if-row-n.false (λ e. false≢true (sym c.if-row-n-2.false ∙ w.value-is ∙ eq-eqb _ _ e)))
          ∙ ap (λ (x : Row). among c.args.r (writes (instruction_from x))) c.instruction_row-row.ensures
    ]
