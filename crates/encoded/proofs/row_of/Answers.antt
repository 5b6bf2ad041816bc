-- Each number stands in its place. Assumes nothing.
use Rattle.encoded.proofs.KeptRows.{row_kept}
use Rattle.encoded.proofs.row_of.Goals as goal

pub returns : goal.returns
returns c fs e h =
    row_kept c.args.w fs c.args.x e h c.shape-fourth.ensures c.shape-sixth.ensures c.variable_or_blank.ensures c.plus_in.ensures c.minus_in.ensures
