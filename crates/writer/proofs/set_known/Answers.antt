-- 3, 4, 5 and 19 before 18; a refusal leaves the listing. Assumes nothing.
use Rattle.writer.proofs.LineJudged.{room-told, kept-first, kept-second, set-both}
use native.Mathlib.Omega.{arith}
use mathlib.Core.Path.{◌∙◌, sym}
use Rattle.writer.proofs.set_known.Goals as goal

pub returns-in_err-judge-clause-s_after : goal.returns-in_err-judge-clause-s_after
returns-in_err-judge-clause-s_after c = kept-first _ _ _ _ _ (sym (c.judge.ensures _ c.kept_fields.ensures) ∙ c.in_err-judge.was)

pub returns-in_err-room_for-clause-s_after : goal.returns-in_err-room_for-clause-s_after
returns-in_err-room_for-clause-s_after c =
    kept-second _ _ _ _ _ _ (sym (c.judge.ensures _ c.kept_fields.ensures) ∙ c.in_ok-judge.was) (sym c.room_for.ensures ∙ c.in_err-room_for.was)

pub overflow_sub-n : goal.overflow_sub-n
overflow_sub-n c = (room-told _ _ _ (sym c.room_for.ensures ∙ c.in_ok-room_for.was)).0

pub write_line-requires : goal.write_line-requires
write_line-requires c = let b = room-told _ _ _ (sym c.room_for.ensures ∙ c.in_ok-room_for.was) in omega (arith, b.0, b.1)

pub returns-clause-s_after : goal.returns-clause-s_after
returns-clause-s_after c =
    c.write_line.ensures ∙ set-both _ _ _ _ _ _ (sym (c.judge.ensures _ c.kept_fields.ensures) ∙ c.in_ok-judge.was) (sym c.room_for.ensures ∙ c.in_ok-room_for.was)
