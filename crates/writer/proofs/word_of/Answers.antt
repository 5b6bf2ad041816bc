-- The word of four bytes is the one that the reader finds. Assumes nothing.
use Rattle.writer.proofs.LineJudged.{word_none, word-four}
use mathlib.Core.Path.{◌∙◌}
use Rattle.writer.proofs.word_of.Goals as goal

pub returns-then-t-ne-WORD_BYTES : goal.returns-then-t-ne-WORD_BYTES
returns-then-t-ne-WORD_BYTES c = word_none _ (λ h. c.if-t-ne-WORD_BYTES.true h)

pub returns : goal.returns
returns c = c.find_word.ensures ∙ word-four _ c.if-t-ne-WORD_BYTES.false
