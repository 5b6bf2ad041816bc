-- Lines of a state: when a line is one of a word, and what it names or sets. Assumes nothing.
use Prim.Native.Nat.{ℕ, ◌≤◌}
use native.Mathlib.Omega.{arith}
use mathlib.Core.Path.{◌≡◌, refl, ap, ◌∙◌}
use mathlib.Core.Bool.{true, false, ◌&&◌, not}
use mathlib.Core.List.{List}
use borrow.Author.Tests.{leb-true, not-true, eq-eqb, ne_eqb}
use Rattle.model.specs.declared.text.Field.{Field}
use Rattle.model.specs.declared.text.Word.{Word}
use Rattle.model.specs.declared.text.Word.TheVariants.{Setc as SETC, Jump as JUMP}
use Rattle.std.specs.Prelude.{Ok, Err, Some, None}
use Rattle.std.specs.Result.{is_ok}
use Rattle.model.specs.Types.{Judgement}
use Rattle.model.specs.Limits.{MAX, today}
use Rattle.model.specs.Answers.{is_refused}
use Rattle.model.specs.Words.{text_of as word_text, begins, fields_of, allowed, within}
use Rattle.model.specs.Lines.{well_spelled, fields_in, field_at, F1, F4, F5, F6, kind_at, judged, in_limits}
use Rattle.model.proofs.Tests.{and_right, every-below}
use Rattle.model.proofs.Judgements.{is-accepted as not-refused}
use Rattle.columns.specs.declared.field.KeptFields.{KeptFields}
use Rattle.columns.specs.Kept.{kept_fields}
use Rattle.word_table.proofs.KeptNumbers.{number-kept}
use Rattle.lines.proofs.AcceptedFields.{fields-accepted}
use Rattle.saved.specs.States.{is_line_of, target_on, setting_on}

-- the greatest number of a SETC
set-limit : (fs : List Field) → in_limits today SETC fs ≡ true → F6 fs ≤ MAX
unfolding in_limits fields_of allowed within
set-limit fs e =
    leb-true (F6 fs) MAX (every-below (λ (j : ℕ). allowed today (kind_at SETC j) (F1 fs) (F5 fs) (field_at fs j)) 6 e 5 (omega arith))

-- accepted is not refused
pub ok_or-refused : (j : Judgement) → is_ok j ≡ not (is_refused j)
ok_or-refused (Ok u) = refl
ok_or-refused (Err r) = refl

module _ (l : List ℕ) where
  module _ (w : Word) where
    pub begun : well_spelled l ≡ true → begins l (word_text w) ≡ true → not (is_refused (judged today 0 (Some w) (fields_in l))) ≡ is_line_of w l
    unfolding is_line_of
    begun e f = rw (e, f) refl

  pub no_target : is_line_of JUMP l ≡ false → None ≡ target_on l
  unfolding target_on
  no_target e = rw e refl

  pub target : is_line_of JUMP l ≡ true → Some (F4 (fields_in l)) ≡ target_on l
  unfolding target_on
  target e = rw e refl

  pub no-setting : (v : ℕ) → is_line_of SETC l ≡ false → None ≡ setting_on l v
  unfolding setting_on
  no-setting v e = rw e refl

  pub other-setting : (v : ℕ) → is_line_of SETC l ≡ true → (F1 (fields_in l) ≡ v → ⊥) → None ≡ setting_on l v
  unfolding setting_on
  other-setting v e h = rw (e, ne_eqb _ _ h) refl

  pub setting : (v : ℕ) → is_line_of SETC l ≡ true → F1 (fields_in l) ≡ v → Some (F6 (fields_in l)) ≡ setting_on l v
  unfolding setting_on
  setting v e h = rw (e, eq-eqb _ _ h) refl

  pub setting-fits : is_line_of SETC l ≡ true → F6 (fields_in l) ≤ MAX
  unfolding is_line_of
  setting-fits e = set-limit (fields_in l) (fields-accepted 0 SETC (fields_in l) (not-refused _ (not-true _ (and_right (well_spelled l && begins l (word_text SETC)) _ e)))).1

  -- the numbers that are kept of such a line are those of its fields
  pub numbers-kept : (w : Word) → is_line_of w l ≡ true → (x : KeptFields) → x ≡ kept_fields (fields_in l) → (x.first ≡ F1 (fields_in l)) × (x.fourth ≡ F4 (fields_in l)) × (x.sixth ≡ F6 (fields_in l))
  unfolding is_line_of kept_fields
  numbers-kept w e x k =
      let s = (fields-accepted 0 w (fields_in l) (not-refused _ (not-true _ (and_right (well_spelled l && begins l (word_text w)) _ e)))).0 in
      let n = number-kept w (fields_in l) s in
      (ap (λ (y : KeptFields). y.first) k ∙ n 0 (omega arith), ap (λ (y : KeptFields). y.fourth) k ∙ n 3 (omega arith), ap (λ (y : KeptFields). y.sixth) k ∙ n 5 (omega arith))
