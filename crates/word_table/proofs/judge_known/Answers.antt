-- The row of a word judges its fields as the definition does. Assumes nothing.
use Rattle.word_table.proofs.AskedRows.{row-judged}
use Rattle.word_table.proofs.judge_known.Goals as goal

pub returns : goal.returns
returns c fs e = rw (c.judge_by_row.ensures, e) (row-judged c.args.w fs c.args.place)
