-- What the fields of an accepted line may hold: the limits of every instruction and claim that is read. Assumes nothing.
use mathlib.Core.Path.{◌≡◌, refl}
use mathlib.Core.Bool.{Bool, true, false, ◌&&◌, ◌||◌, cond}
use mathlib.Core.List.{List}
use Prim.Native.Nat.{ℕ, ◌≤◌, ◌<◌}
use native.Mathlib.Nat.{mul-le-mul}
use native.Mathlib.Omega.{arith}
use lib.Dec.{ltb, leb, eqb}
use borrow.Author.Tests.{ltb-true, leb-true, eqb-false, not-true}
use Rattle.model.specs.Types.{Field, Blank, Number, Negative, Misshapen, Word, STOP, SETC, COPY, ADDW, SUBW, MULW, DIVF, LOAD, STOR, JUMP, BLTU, BEQU, LEAS, MOST, STRP, DIVM, TURN, Option, None, Some, empty, Width, One, Two, Four, variable, number, refused_line, LineBytes, FieldShape, NumberLimits, SameRegister, accepted, Err}
use Rattle.model.specs.Limits.{registers, variables, MAX, greatest_size, greatest_scale, greatest_offset, greatest_bound, greatest_points, today}
use Rattle.model.specs.Text.{value_in}
use Rattle.model.specs.Words.{words, word_among, fields_of, shaped, within, allowed}
use Rattle.model.specs.Lines.{well_spelled, fields_in, field_at, F1, F2, F3, F4, F5, F6, kind_at, in_shape, in_limits, registers_differ, judged, operand_from, variable_or_blank, plus_in, minus_in, line_from, line_or, line_found, read_line}
use Rattle.model.specs.Facts.{register_range, size_range, unclaimed_range}
use Rattle.model.specs.Limited.{OperandLimited, ArithmeticLimited, AccessLimited, AccessEndsBelow, BranchLimited, LineLimited}
use Rattle.model.specs.Machine.{bytes_of}
use Rattle.model.proofs.Tests.{and_left, and_right, cond_cases, every-below}

operand-limited : (f5 v : ℕ) → cond (eqb f5 0) (ltb v variables) (leb v MAX) ≡ true → OperandLimited (operand_from f5 v)
operand-limited f5 v e = go (eqb f5 0) e
  where
    go : (b : Bool) → cond b (ltb v variables) (leb v MAX) ≡ true → OperandLimited (cond b (variable v) (number v))
    go true t = ltb-true v variables t
    go false t = leb-true v MAX t

claimed-limited : (f1 v : ℕ) → cond (ltb f1 registers) (leb v MAX) (leb v greatest_size) ≡ true → v ≤ (unclaimed_range f1).hi
claimed-limited f1 v e = go (ltb f1 registers) e
  where
    go : (b : Bool) → cond b (leb v MAX) (leb v greatest_size) ≡ true → v ≤ (cond b register_range size_range).hi
    go true t = leb-true v MAX t
    go false t = leb-true v greatest_size t

blank-limited : (f : Field) → (shaped empty f || ltb (value_in f) variables) ≡ true → variable_or_blank f ≤ variables
unfolding shaped
blank-limited Blank e = omega arith
blank-limited (Number v) e = omega (arith, ltb-true v variables e)
blank-limited (Negative v) e = omega (arith, ltb-true v variables e)
blank-limited Misshapen e = omega arith

bound-limited : (f : Field) (m : ℕ) → value_in f ≤ m → (plus_in f ≤ m) × (minus_in f ≤ m)
bound-limited Blank m h = omega arith
bound-limited (Number v) m h = omega arith
bound-limited (Negative v) m h = omega arith
bound-limited Misshapen m h = omega arith

scale-limited : (v : ℕ) → (leb 1 v && leb v greatest_scale) ≡ true → (1 ≤ v) × (v ≤ greatest_scale)
scale-limited v e = (leb-true 1 v (and_left (leb 1 v) _ e), leb-true v greatest_scale (and_right (leb 1 v) _ e))

-- the greatest scale times the greatest value, an offset and the bytes of a width
pub access-ends-below : AccessEndsBelow
access-ends-below a i k x w h small = omega (arith, mul-le-mul h.scale small, width_few w)
  where
    width_few : (w : Width) → bytes_of w ≤ 4
    width_few One = omega arith
    width_few Two = omega arith
    width_few Four = omega arith

-- each word, by the limits of its fields
module _ (fs : List Field) where
  field-allowed : (w : Word) → in_limits today w fs ≡ true → (j : ℕ) → j < 6 → allowed today (kind_at w j) (F1 fs) (F5 fs) (field_at fs j) ≡ true
  unfolding in_limits
  field-allowed w e j h = every-below (λ (j : ℕ). allowed today (kind_at w j) (F1 fs) (F5 fs) (field_at fs j)) 6 e j h

  arithmetic : (w : Word) → in_limits today w fs ≡ true
      → allowed today (kind_at w 0) (F1 fs) (F5 fs) (field_at fs 0) ≡ ltb (F1 fs) registers
      → allowed today (kind_at w 1) (F1 fs) (F5 fs) (field_at fs 1) ≡ ltb (F2 fs) variables
      → allowed today (kind_at w 5) (F1 fs) (F5 fs) (field_at fs 5) ≡ cond (eqb (F5 fs) 0) (ltb (F6 fs) variables) (leb (F6 fs) MAX)
      → ArithmeticLimited (F1 fs) (F2 fs) (operand_from (F5 fs) (F6 fs))
  arithmetic w e p q r = record {
    register = ltb-true (F1 fs) registers (rw p at (field-allowed w e 0 (omega arith)));
    variable = ltb-true (F2 fs) variables (rw q at (field-allowed w e 1 (omega arith)));
    operand = operand-limited (F5 fs) (F6 fs) (rw r at (field-allowed w e 5 (omega arith)));
  }

  branch : (w : Word) → in_limits today w fs ≡ true
      → allowed today (kind_at w 1) (F1 fs) (F5 fs) (field_at fs 1) ≡ ltb (F2 fs) variables
      → allowed today (kind_at w 3) (F1 fs) (F5 fs) (field_at fs 3) ≡ ltb (F4 fs) greatest_points
      → allowed today (kind_at w 5) (F1 fs) (F5 fs) (field_at fs 5) ≡ cond (eqb (F5 fs) 0) (ltb (F6 fs) variables) (leb (F6 fs) MAX)
      → BranchLimited (F2 fs) (F4 fs) (operand_from (F5 fs) (F6 fs))
  branch w e p q r = record {
    variable = ltb-true (F2 fs) variables (rw p at (field-allowed w e 1 (omega arith)));
    target = ltb-true (F4 fs) greatest_points (rw q at (field-allowed w e 3 (omega arith)));
    operand = operand-limited (F5 fs) (F6 fs) (rw r at (field-allowed w e 5 (omega arith)));
  }

  access : (w : Word) → in_limits today w fs ≡ true
      → allowed today (kind_at w 3) (F1 fs) (F5 fs) (field_at fs 3) ≡ (leb 1 (F4 fs) && leb (F4 fs) greatest_scale)
      → allowed today (kind_at w 4) (F1 fs) (F5 fs) (field_at fs 4) ≡ ltb (F5 fs) variables
      → allowed today (kind_at w 5) (F1 fs) (F5 fs) (field_at fs 5) ≡ leb (F6 fs) greatest_offset
      → AccessLimited (F4 fs) (F5 fs) (F6 fs)
  access w e p q r =
      let s = scale-limited (F4 fs) (rw p at (field-allowed w e 3 (omega arith))) in
      record {
        scaled = s.0;
        scale = s.1;
        variable = ltb-true (F5 fs) variables (rw q at (field-allowed w e 4 (omega arith)));
        offset = leb-true (F6 fs) greatest_offset (rw r at (field-allowed w e 5 (omega arith)));
      }

  pub line-limited : (w : Word) → in_limits today w fs ≡ true → registers_differ w fs ≡ true → LineLimited (line_from w fs)
  unfolding allowed within fields_of registers_differ
  line-limited STOP e n = tt
  line-limited SETC e n = (ltb-true (F1 fs) registers (field-allowed SETC e 0 (omega arith)), leb-true (F6 fs) MAX (field-allowed SETC e 5 (omega arith)))
  line-limited COPY e n = (ltb-true (F1 fs) registers (field-allowed COPY e 0 (omega arith)), ltb-true (F2 fs) variables (field-allowed COPY e 1 (omega arith)))
  line-limited ADDW e n = arithmetic ADDW e refl refl refl
  line-limited SUBW e n = arithmetic SUBW e refl refl refl
  line-limited MULW e n = arithmetic MULW e refl refl refl
  line-limited DIVF e n = arithmetic DIVF e refl refl refl
  line-limited LOAD e n = (ltb-true (F1 fs) registers (field-allowed LOAD e 0 (omega arith)), access LOAD e refl refl refl)
  line-limited STOR e n = (ltb-true (F1 fs) variables (field-allowed STOR e 0 (omega arith)), access STOR e refl refl refl)
  line-limited JUMP e n = ltb-true (F4 fs) greatest_points (field-allowed JUMP e 3 (omega arith))
  line-limited BLTU e n = branch BLTU e refl refl refl
  line-limited BEQU e n = branch BEQU e refl refl refl
  line-limited LEAS e n = (ltb-true (F1 fs) variables (field-allowed LEAS e 0 (omega arith)), claimed-limited (F1 fs) (F6 fs) (field-allowed LEAS e 5 (omega arith)))
  line-limited MOST e n = (ltb-true (F1 fs) variables (field-allowed MOST e 0 (omega arith)), claimed-limited (F1 fs) (F6 fs) (field-allowed MOST e 5 (omega arith)))
  line-limited STRP e n =
      let s = scale-limited (F2 fs) (field-allowed STRP e 1 (omega arith)) in
      let b = bound-limited (field_at fs 5) greatest_bound (leb-true (F6 fs) greatest_bound (field-allowed STRP e 5 (omega arith))) in
      record {
        x = ltb-true (F1 fs) variables (field-allowed STRP e 0 (omega arith));
        scaled = s.0;
        scale = s.1;
        y = ltb-true (F3 fs) variables (field-allowed STRP e 2 (omega arith));
        z = blank-limited (field_at fs 3) (field-allowed STRP e 3 (omega arith));
        plus = b.0;
        minus = b.1;
      }
  line-limited DIVM e n = record {
    arithmetic = arithmetic DIVM e refl refl refl;
    register = ltb-true (F3 fs) registers (field-allowed DIVM e 2 (omega arith));
    differ = eqb-false (F1 fs) (F3 fs) (not-true _ n);
  }
  line-limited TURN e n = ltb-true (F1 fs) registers (field-allowed TURN e 0 (omega arith))

  found-limited : (place : ℕ) (w : Option Word) → LineLimited (line_found today place w fs)
  unfolding judged
  found-limited place None = tt
  found-limited place (Some w) = go (in_shape w fs) (in_limits today w fs) (registers_differ w fs) refl refl
    where
      go : (a b c : Bool) → in_limits today w fs ≡ b → registers_differ w fs ≡ c
          → LineLimited (line_or (cond a (cond b (cond c accepted (Err (SameRegister place))) (Err (NumberLimits place))) (Err (FieldShape place))) (line_from w fs))
      go true true true e d = line-limited w e d
      go true true false e d = tt
      go true false c e d = tt
      go false b c e d = tt

-- every line that is read lies within its limits
pub read-limited : (place : ℕ) (l : List ℕ) → LineLimited (read_line today place l)
unfolding read_line
read-limited place l =
    cond_cases LineLimited (well_spelled l) (line_found today place (word_among words l) (fields_in l)) (refused_line (LineBytes place))
    (λ e. found-limited (fields_in l) place (word_among words l)) (λ e. tt)
