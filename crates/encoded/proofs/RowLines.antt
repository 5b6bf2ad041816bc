-- The row of a word whose fields are accepted gives the line of that word. Assumes nothing.
use mathlib.Core.Path.{◌≡◌, refl, sym, ap, ◌∙◌}
use mathlib.Core.Bool.{Bool, true, false, cond, false≢true}
use mathlib.Core.List.{List}
use Prim.Native.Nat.{ℕ, ◌%◌, ◌≤◌, ◌<◌}
use native.Mathlib.Omega.{arith}
use lib.Dec.{eqb}
use Rattle.model.specs.Limits as Limits
use Rattle.model.specs.declared.text.Field.{Field}
use Rattle.model.specs.declared.text.Field.TheVariants.{Blank, Number, Negative, Misshapen}
use Rattle.model.specs.declared.text.Word.{Word}
use Rattle.model.specs.declared.text.Word.TheVariants.{Stop as STOP, Setc as SETC, Copy as COPY, Addw as ADDW, Subw as SUBW, Mulw as MULW, Divf as DIVF, Load as LOAD, Stor as STOR, Jump as JUMP, Bltu as BLTU, Bequ as BEQU, Leas as LEAS, Most as MOST, Strp as STRP, Divm as DIVM, Turn as TURN}
use Rattle.model.specs.declared.text.Content.{Content}
use Rattle.model.specs.declared.text.Content.TheVariants.{Target, Scale, Offset, Number as a_number, Operand as an_operand, Claimed}
use Rattle.model.specs.declared.text.Kind.{Kind}
use Rattle.model.specs.declared.text.Kind.TheVariants.{Plain}
use Rattle.model.specs.declared.machine.Operand.TheVariants.{Variable as variable, Number as number}
use Rattle.model.specs.declared.machine.Instruction.TheVariants.{Setc, Addw, Subw, Mulw, Divf, Jump, Divm}
use Rattle.model.specs.declared.claims.Claim.TheVariants.{Leas, Most}
use Rattle.model.specs.declared.claims.Line.TheVariants.{Claim as claim_line, Instruction as instruction_line}
use Rattle.model.specs.Limits.{MAX, today}
use Rattle.model.specs.Text.{value_in}
use Rattle.model.specs.Words.{fields_of, shaped}
use Rattle.model.specs.Lines as Lines
use Rattle.model.specs.Lines.{field_at, F1, F2, F3, F4, F5, F6, kind_at, in_shape, in_limits, registers_differ, operand_from, variable_or_blank, plus_in}
use Rattle.model.specs.Limited.{OperandLimited}
use Rattle.model.proofs.Limited.{line-limited}
use Rattle.model.proofs.Tests.{every-below}
use Rattle.decoded.specs.Decoded.{operand_in, line_of_row}
use Rattle.encoded.specs.Encoded.{row_of}

word_same : (n : ℕ) → n ≤ MAX → n % Limits.modulus ≡ n
word_same n h = omega arith

byte-same : (n : ℕ) → n ≤ 255 → n % 256 ≡ n
byte-same n h = omega arith

scale_same : (n : ℕ) → n ≤ Limits.greatest_scale → n % 65536 ≡ n
scale_same n h = omega arith

-- a field that holds a plain number has nothing else
plain-plus : (c : Content) (f : Field) → shaped (Plain c) f ≡ true → plus_in f ≡ value_in f
unfolding shaped
plain-plus c Blank e = refl
plain-plus c (Number v) e = refl
plain-plus c (Negative v) e = absurd (false≢true e)
plain-plus c Misshapen e = refl

plain-variable : (c : Content) (f : Field) → shaped (Plain c) f ≡ true → variable_or_blank f ≡ value_in f
unfolding shaped
plain-variable c Blank e = absurd (false≢true e)
plain-variable c (Number v) e = refl
plain-variable c (Negative v) e = refl
plain-variable c Misshapen e = absurd (false≢true e)

operand_same : (choice n : ℕ) → OperandLimited (operand_from choice n) → operand_in choice n ≡ operand_from choice n
operand_same choice n h = go (eqb choice 0) h
  where
    go : (b : Bool) → OperandLimited (cond b (variable n) (number n)) → cond b (variable n) (number (n % Limits.modulus)) ≡ cond b (variable n) (number n)
    go true h = refl
    go false h = ap number (word_same n h)

module _ (fs : List Field) where
  field-shaped : (w : Word) → in_shape w fs ≡ true → (j : ℕ) → j < 6 → shaped (kind_at w j) (field_at fs j) ≡ true
  unfolding in_shape
  field-shaped w e j h = every-below (λ (i : ℕ). shaped (kind_at w i) (field_at fs i)) 6 e j h

  fourth-is : (w : Word) → in_shape w fs ≡ true → (c : Content) → kind_at w 3 ≡ Plain c → variable_or_blank (field_at fs 3) ≡ F4 fs
  fourth-is w e c k = plain-variable c (field_at fs 3) (ap (λ (x : Kind). shaped x (field_at fs 3)) (sym k) ∙ field-shaped w e 3 (omega arith))

  sixth-is : (w : Word) → in_shape w fs ≡ true → (c : Content) → kind_at w 5 ≡ Plain c → plus_in (field_at fs 5) ≡ F6 fs
  sixth-is w e c k = plain-plus c (field_at fs 5) (ap (λ (x : Kind). shaped x (field_at fs 5)) (sym k) ∙ field-shaped w e 5 (omega arith))

  operand-is : (w : Word) → in_shape w fs ≡ true → kind_at w 5 ≡ Plain an_operand → OperandLimited (operand_from (F5 fs) (F6 fs)) → operand_in (F5 fs) (plus_in (field_at fs 5)) ≡ operand_from (F5 fs) (F6 fs)
  operand-is w e k h = ap (operand_in (F5 fs)) (sixth-is w e an_operand k) ∙ operand_same (F5 fs) (F6 fs) h

  pub line_same : (w : Word) → in_shape w fs ≡ true → in_limits today w fs ≡ true → registers_differ w fs ≡ true → line_of_row (row_of w fs) ≡ Lines.line_from w fs
  unfolding fields_of
  line_same STOP s l d = refl
  line_same SETC s l d = ap (λ (n : ℕ). instruction_line (Setc (F1 fs) n)) (ap (λ (n : ℕ). n % Limits.modulus) (sixth-is SETC s a_number refl) ∙ word_same (F6 fs) (line-limited fs SETC l d).1)
  line_same COPY s l d = refl
  line_same ADDW s l d = ap (λ (o : _). instruction_line (Addw (F1 fs) (F2 fs) o)) (operand-is ADDW s refl (line-limited fs ADDW l d).operand)
  line_same SUBW s l d = ap (λ (o : _). instruction_line (Subw (F1 fs) (F2 fs) o)) (operand-is SUBW s refl (line-limited fs SUBW l d).operand)
  line_same MULW s l d = ap (λ (o : _). instruction_line (Mulw (F1 fs) (F2 fs) o)) (operand-is MULW s refl (line-limited fs MULW l d).operand)
  line_same DIVF s l d = ap (λ (o : _). instruction_line (Divf (F1 fs) (F2 fs) o)) (operand-is DIVF s refl (line-limited fs DIVF l d).operand)
  line_same LOAD s l d = rw (fourth-is LOAD s Scale refl, sixth-is LOAD s Offset refl)
  line_same STOR s l d = rw (fourth-is STOR s Scale refl, sixth-is STOR s Offset refl)
  line_same JUMP s l d = ap (λ (t : ℕ). instruction_line (Jump t)) (fourth-is JUMP s Target refl)
  line_same BLTU s l d = rw (fourth-is BLTU s Target refl, operand-is BLTU s refl (line-limited fs BLTU l d).operand)
  line_same BEQU s l d = rw (fourth-is BEQU s Target refl, operand-is BEQU s refl (line-limited fs BEQU l d).operand)
  line_same LEAS s l d = ap (λ (n : ℕ). claim_line (Leas (F1 fs) n)) (sixth-is LEAS s Claimed refl)
  line_same MOST s l d = ap (λ (n : ℕ). claim_line (Most (F1 fs) n)) (sixth-is MOST s Claimed refl)
  line_same STRP s l d =
      let h = line-limited fs STRP l d in
      let x = h.x in
      let y = h.y in
      let z = h.z in
      rw (byte-same (F1 fs) (omega arith), scale_same (F2 fs) h.scale, byte-same (F3 fs) (omega arith), byte-same (variable_or_blank (field_at fs 3)) (omega arith)) refl
  line_same DIVM s l d = ap (λ (o : _). instruction_line (Divm (F1 fs) (F2 fs) (F3 fs) o)) (operand-is DIVM s refl (line-limited fs DIVM l d).arithmetic.operand)
  line_same TURN s l d = refl
