-- A word that is none is 3; any other goes on with its fields. Assumes nothing.
use Rattle.writer.proofs.LineJudged.{unknown, known}
use mathlib.Core.Path.{◌∙◌, sym}
use Rattle.writer.proofs.set_line.Goals as goal

pub returns-in-None : goal.returns-in-None
returns-in-None c =
    let e = sym c.word_of.ensures ∙ c.in-None.is in
    record { value = (unknown _ _ _ _ e).0; listing_after = (unknown _ _ _ _ e).1 }

pub returns-in-Some : goal.returns-in-Some
returns-in-Some c =
    let e = sym c.word_of.ensures ∙ c.in-Some.is in
    let told = c.set_known.ensures in
    record { value = (known _ _ _ _ _ e _ told.value _ told.s_after).0; listing_after = (known _ _ _ _ _ e _ told.value _ told.s_after).1 }
