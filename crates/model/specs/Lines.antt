-- Document 01, 'The machine', 'Claims' and 'Turned back', with document 02's 19: one line of 40 bytes, read as a word and six fields and then as a claim or an instruction.
-- Within a line 2 is tested first, then 3, then 4 over all six fields, then 5 over all six, then 19.
-- 3, 4, 5 and 19 look at the word and the fields alone, so that a writer of lines can be held to the same judgement.
use Rattle.std.specs.Prelude.{ℕ, zero, suc, ◌+◌, ◌*◌, Bool, true, not, ◌&&◌, List, [], ◌∷◌, get_or, set, leb, eqb}
use Rattle.std.proofs.Math.Bool.{cond}
use Rattle.model.specs.Types.{Field, Blank, Number, Negative, Misshapen, Word, STOP, SETC, COPY, ADDW, SUBW, MULW, DIVF, LOAD, STOR, JUMP, BLTU, BEQU, LEAS, MOST, STRP, DIVM, TURN, Option, None, Some, Kind, empty, Width, One, Two, Four, Table, Trays, Results, Operand, variable, number, Stop, Setc, Copy, Addw, Subw, Mulw, Divf, Load, Stor, Jump, Bltu, Bequ, Divm, Leas, Most, Strp, Turn, Line, refused_line, claim_line, instruction_line, LineBytes, UnknownWord, FieldShape, NumberLimits, SameRegister, Judgement, accepted, Err, Ok}
use Rattle.model.specs.Limits.{blank_variable, StripeLimits}
use Rattle.model.specs.Lists.{every_below}
use Rattle.model.specs.Text.{space, line_end, field_of, value_in, field_set}
use Rattle.model.specs.Words.{words, word_among, fields_of, shaped, allowed}

-- a byte that may stand in columns 1 to 39
unfoldable pub printable : ℕ → Bool
printable b = leb space b && leb b 126

-- columns 1 to 39 are printable and column 40 ends the line
unfoldable pub well_spelled : List ℕ → Bool
unfolding printable every_below
well_spelled l = every_below (λ (j : ℕ). printable (get_or l j 0)) 39 && eqb (get_or l 39 0) line_end

-- the first column of field j, both counted from 0
abbrev pub column_of : ℕ → ℕ
column_of j = 4 + j * 4

-- the number of columns of field j
unfoldable pub width_of : ℕ → ℕ
width_of j = cond (eqb j 5) 15 4

-- the six fields of a line
unfoldable pub fields_in : List ℕ → List Field
unfolding field_of width_of
fields_in l = at 0 ∷ at 1 ∷ at 2 ∷ at 3 ∷ at 4 ∷ at 5 ∷ []
  where
    at : ℕ → Field
    at j = field_of l (column_of j) (width_of j)

-- field j, counted from 0
abbrev pub field_at : List Field → ℕ → Field
field_at fs j = get_or fs j Blank

-- the number of F1
abbrev pub F1 : List Field → ℕ
F1 fs = value_in (field_at fs 0)

-- the number of F2
abbrev pub F2 : List Field → ℕ
F2 fs = value_in (field_at fs 1)

-- the number of F3
abbrev pub F3 : List Field → ℕ
F3 fs = value_in (field_at fs 2)

-- the number of F4
abbrev pub F4 : List Field → ℕ
F4 fs = value_in (field_at fs 3)

-- the number of F5
abbrev pub F5 : List Field → ℕ
F5 fs = value_in (field_at fs 4)

-- the number of F6
abbrev pub F6 : List Field → ℕ
F6 fs = value_in (field_at fs 5)

-- what the word asks of field j
abbrev pub kind_at : Word → ℕ → Kind
kind_at w j = get_or (fields_of w) j empty

-- every field is in the shape that its word asks for
unfoldable pub in_shape : Word → List Field → Bool
unfolding every_below shaped fields_of
in_shape w fs = every_below (λ (j : ℕ). shaped (kind_at w j) (field_at fs j)) 6

-- within these limits of scales and bounds
module _ (L : StripeLimits) where
  -- every number lies within its limits
  unfoldable pub in_limits : Word → List Field → Bool
  unfolding every_below allowed fields_of
  in_limits w fs = every_below (λ (j : ℕ). allowed L (kind_at w j) (F1 fs) (F5 fs) (field_at fs j)) 6

-- 19: DIVM writes two registers, so that F1 and F3 differ; of the other words nothing is asked
unfoldable pub registers_differ : Word → List Field → Bool
registers_differ STOP fs = true
registers_differ SETC fs = true
registers_differ COPY fs = true
registers_differ ADDW fs = true
registers_differ SUBW fs = true
registers_differ MULW fs = true
registers_differ DIVF fs = true
registers_differ LOAD fs = true
registers_differ STOR fs = true
registers_differ JUMP fs = true
registers_differ BLTU fs = true
registers_differ BEQU fs = true
registers_differ LEAS fs = true
registers_differ MOST fs = true
registers_differ STRP fs = true
registers_differ DIVM fs = not (eqb (F1 fs) (F3 fs))
registers_differ TURN fs = true

-- 19, for a word whose fields are in shape and within their limits
abbrev pub registers_judged : ℕ → Word → List Field → Judgement
registers_judged place w fs = cond (registers_differ w fs) accepted (Err (SameRegister place))

-- within these limits of scales and bounds
module _ (L : StripeLimits) where
  -- 3, 4, 5 and 19: a word and its fields, judged with a line number for place
  unfoldable pub judged : ℕ → Option Word → List Field → Judgement
  unfolding in_shape in_limits registers_differ
  judged place None fs = Err (UnknownWord place)
  judged place (Some w) fs = cond (in_shape w fs) (cond (in_limits L w fs) (registers_judged place w fs) (Err (NumberLimits place))) (Err (FieldShape place))

-- the width that a number within its limits stands for
abbrev pub width_from : ℕ → Width
width_from n = cond (eqb n 1) One (cond (eqb n 2) Two Four)

-- the table that a number within its limits stands for
abbrev pub table_from : ℕ → Table
table_from n = cond (eqb n 0) Trays Results

-- 'operand': a variable where F5 is 0, a number where it is 1
abbrev pub operand_from : ℕ → ℕ → Operand
operand_from choice n = cond (eqb choice 0) (variable n) (number n)

-- a blank z is the blank variable, of value 0
abbrev pub variable_or_blank : Field → ℕ
variable_or_blank Blank = blank_variable
variable_or_blank (Number v) = v
variable_or_blank (Negative v) = v
variable_or_blank Misshapen = blank_variable

-- what a bound adds: its number where it has no minus
abbrev pub plus_in : Field → ℕ
plus_in Blank = 0
plus_in (Number v) = v
plus_in (Negative v) = 0
plus_in Misshapen = 0

-- what a bound takes away: its number where it has a minus
abbrev pub minus_in : Field → ℕ
minus_in Blank = 0
minus_in (Number v) = 0
minus_in (Negative v) = v
minus_in Misshapen = 0

-- the claim or instruction of a word whose fields are accepted
abbrev pub line_from : Word → List Field → Line
line_from STOP fs = instruction_line Stop
line_from SETC fs = instruction_line (Setc (F1 fs) (F6 fs))
line_from COPY fs = instruction_line (Copy (F1 fs) (F2 fs))
line_from ADDW fs = instruction_line (Addw (F1 fs) (F2 fs) (operand_from (F5 fs) (F6 fs)))
line_from SUBW fs = instruction_line (Subw (F1 fs) (F2 fs) (operand_from (F5 fs) (F6 fs)))
line_from MULW fs = instruction_line (Mulw (F1 fs) (F2 fs) (operand_from (F5 fs) (F6 fs)))
line_from DIVF fs = instruction_line (Divf (F1 fs) (F2 fs) (operand_from (F5 fs) (F6 fs)))
line_from LOAD fs = instruction_line (Load (F1 fs) (width_from (F2 fs)) (table_from (F3 fs)) (F4 fs) (F5 fs) (F6 fs))
line_from STOR fs = instruction_line (Stor (F1 fs) (width_from (F2 fs)) (F4 fs) (F5 fs) (F6 fs))
line_from JUMP fs = instruction_line (Jump (F4 fs))
line_from BLTU fs = instruction_line (Bltu (F2 fs) (F4 fs) (operand_from (F5 fs) (F6 fs)))
line_from BEQU fs = instruction_line (Bequ (F2 fs) (F4 fs) (operand_from (F5 fs) (F6 fs)))
line_from LEAS fs = claim_line (Leas (F1 fs) (F6 fs))
line_from MOST fs = claim_line (Most (F1 fs) (F6 fs))
line_from STRP fs =
    claim_line
    (Strp (record { x = F1 fs; a = F2 fs; y = F3 fs; z = variable_or_blank (field_at fs 3); plus = plus_in (field_at fs 5); minus = minus_in (field_at fs 5) }))
line_from DIVM fs = instruction_line (Divm (F1 fs) (F2 fs) (F3 fs) (operand_from (F5 fs) (F6 fs)))
line_from TURN fs = claim_line (Turn (F1 fs))

-- the line, where nothing turns it back
abbrev pub line_or : Judgement → Line → Line
line_or (Ok u) l = l
line_or (Err r) l = refused_line r

-- within these limits of scales and bounds
module _ (L : StripeLimits) where
  -- the line of a word that was found, or not, with its fields
  abbrev pub line_found : ℕ → Option Word → List Field → Line
  line_found place None fs = line_or (judged L place None fs) (refused_line (UnknownWord place))
  line_found place (Some w) fs = line_or (judged L place (Some w) fs) (line_from w fs)

  -- a line of 40 bytes with its number, read
  unfoldable pub read_line : ℕ → List ℕ → Line
  unfolding well_spelled judged word_among fields_in
  read_line place l = cond (well_spelled l) (line_found place (word_among words l) (fields_in l)) (refused_line (LineBytes place))

-- writing: the four bytes of a word set in a line
unfoldable pub word_set : List ℕ → List ℕ → List ℕ
word_set l t = set (set (set (set l 0 (get_or t 0 0)) 1 (get_or t 1 0)) 2 (get_or t 2 0)) 3 (get_or t 3 0)

-- writing: the first n fields set in a line
abbrev pub fields_set : List ℕ → List Field → ℕ → List ℕ
fields_set l fs zero = l
fields_set l fs (suc j) = field_set (fields_set l fs j) (column_of j) (width_of j) (field_at fs j)

-- writing: a whole line of a word and six fields
unfoldable pub line_set : List ℕ → List ℕ → List Field → List ℕ
unfolding word_set field_set width_of
line_set l t fs = set (fields_set (word_set l t) fs 6) 39 line_end
