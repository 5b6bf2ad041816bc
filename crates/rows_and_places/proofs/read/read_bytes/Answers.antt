-- A line that is turned back, and the row of one that is not. Assumes nothing.
use mathlib.Core.Path.{sym, ◌∙◌}
use Rattle.std.proofs.lemmas.Result.{err_from_is_err_and}
use Rattle.rows_and_places.proofs.ReadLine.{misspelled, no-word, fields-refused, in-shape, row-read}
use Rattle.rows_and_places.proofs.read.read_bytes.Goals as goal

pub returns-then-not-is_well_spelled : goal.returns-then-not-is_well_spelled
returns-then-not-is_well_spelled c = misspelled _ _ (sym c.if-not-is_well_spelled.ensures)

pub returns-in_err-word : goal.returns-in_err-word
returns-in_err-word c =
    let p = err_from_is_err_and c.from_residual.result c.from_residual.ensures.1 in
    let e = c.in_err-word.ensures in
    rw (p.1, p.2) (no-word _ _ (sym c.if-not-is_well_spelled.ensures) _ _ c.find_word.ensures e.ok_part e.value)

pub returns-in_err-judge_known : goal.returns-in_err-judge_known
returns-in_err-judge_known c =
    let p = err_from_is_err_and c.from_residual-in_err-judge_known.result c.from_residual-in_err-judge_known.ensures.1 in
    rw (p.1, p.2) (fields-refused _ _ (sym c.if-not-is_well_spelled.ensures) _ (sym c.find_word.ensures ∙ c.in_ok-word.ensures.ok_part) _ (sym (c.in_err-judge_known.ensures _ c.read_fields-fields.ensures)))

pub returns : goal.returns
returns c =
    let s = sym c.if-not-is_well_spelled.ensures in
    let w = sym c.find_word.ensures ∙ c.in_ok-word.ensures.ok_part in
    let e = c.read_fields-fields.ensures in
    let ok = sym (c.in_ok-judge_known.ensures _ e) in
    row-read _ _ s _ w _ ok (c.row_of.ensures _ e (in-shape _ _ s _ w ok))
