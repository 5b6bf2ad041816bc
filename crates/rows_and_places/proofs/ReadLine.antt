-- One line: what is read of it is the row of the line that the definition reads. Assumes nothing.
use mathlib.Core.Path.{◌≡◌, sym, ap, ◌∙◌}
use mathlib.Core.Bool.{true, false}
use mathlib.Core.List.{List}
use Prim.Native.Nat.{ℕ}
use Rattle.std.specs.Prelude.{Option, None, Some, Err}
use Rattle.std.specs.Option.{ok_or}
use Rattle.model.specs.declared.text.Word.{Word}
use Rattle.model.specs.declared.claims.Line.TheVariants.{Refused as refused_line}
use Rattle.model.specs.declared.answers.Refusal.{Refusal}
use Rattle.model.specs.declared.answers.Refusal.TheVariants.{LineBytes, UnknownWord}
use Rattle.model.specs.Types.{accepted}
use Rattle.model.specs.Limits.{today}
use Rattle.model.specs.Words.{words, word_among}
use Rattle.model.specs.Lines.{well_spelled, fields_in, in_shape, judged, line_from, line_or, line_found, read_line}
use Rattle.lines.proofs.AcceptedFields.{fields-accepted}
use Rattle.line_rows.specs.declared.rows.Row.{Row}
use Rattle.decoded.specs.Decoded.{line_of_row}
use Rattle.encoded.specs.Encoded.{row_of}
use Rattle.encoded.proofs.RowLines.{line_same}

module _ (place : ℕ) (l : List ℕ) where
  pub misspelled : well_spelled l ≡ false → read_line today place l ≡ refused_line (LineBytes place)
  unfolding read_line
  misspelled e = rw e

  spelled : well_spelled l ≡ true → read_line today place l ≡ line_found today place (word_among words l) (fields_in l)
  unfolding read_line
  spelled e = rw e

  module _ (s : well_spelled l ≡ true) where
    pub no-word : (o : Option Word) (r : Refusal) → o ≡ word_among words l → o ≡ None → Err r ≡ ok_or o (UnknownWord place) → read_line today place l ≡ refused_line r
    unfolding judged
    no-word o r f n e =
        let told : Err r ≡ ok_or None (UnknownWord place) = rw n at e in
        let is : r ≡ UnknownWord place = cc in
        let none : word_among words l ≡ None = sym f ∙ n in
        spelled s ∙ rw (none, is)

    module _ (w : Word) (e : word_among words l ≡ Some w) where
      found : read_line today place l ≡ line_or (judged today place (Some w) (fields_in l)) (line_from w (fields_in l))
      found = spelled s ∙ rw e

      pub fields-refused : (r : Refusal) → judged today place (Some w) (fields_in l) ≡ Err r → read_line today place l ≡ refused_line r
      fields-refused r f = found ∙ rw f

      pub in-shape : judged today place (Some w) (fields_in l) ≡ accepted → in_shape w (fields_in l) ≡ true
      in-shape f = (fields-accepted place w (fields_in l) f).0

      pub row-read : (r : Row) → judged today place (Some w) (fields_in l) ≡ accepted → r ≡ row_of w (fields_in l) → line_of_row r ≡ read_line today place l
      row-read r f h =
          let ok = fields-accepted place w (fields_in l) f in
          ap line_of_row h ∙ line_same (fields_in l) w ok.0 ok.1 ok.2 ∙ sym (found ∙ rw f)
