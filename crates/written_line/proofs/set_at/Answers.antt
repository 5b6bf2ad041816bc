-- The columns of field j are spaces before it is set, and those after it are spaces still. Assumes nothing.
use Rattle.columns.proofs.FieldColumns.{columns-fit}
use Rattle.written_line.proofs.ClearedColumns.{cleared-field, cleared-after}
use native.Mathlib.Omega.{arith}
use Rattle.written_line.proofs.set_at.Goals as goal

pub set_field-requires : goal.set_field-requires
set_field-requires c =
    rw c.width-n.ensures (omega (arith, (columns-fit _ c.requires.1).0, c.requires.0), cleared-field _ _ c.requires.1 c.requires.2)

pub returns-clause-cleared_from : goal.returns-clause-cleared_from
returns-clause-cleared_from c =
    let set = rw c.width-n.ensures at c.set_field.ensures in
    cleared-after _ _ _ _ set c.requires.2
