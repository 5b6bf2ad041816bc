-- Document 01, 'The machine' and 'Claims', with document 02's words DIVM and TURN: the words, what each asks of its six fields, and the limits of what the fields hold.
-- A field's kind says which shapes it takes; its content says what its number stands for, and so its limits.
-- Two contents depend on another field: an operand's F6 on F5, and the number of LEAS and MOST on F1.
use Rattle.std.specs.Prelude.{ℕ, Bool, false, not, ◌&&◌, ◌||◌, cond, List, [], ◌∷◌, get_or, leb, ltb, eqb}
use Prim.Native.Char.{code}
use Prim.Native.String.{String, [] as end, ◌∷◌ as ◌then◌}
use Rattle.std.proofs.Math.Bool.{true}
use Rattle.model.specs.Types.{Field, Blank, Number, Negative, Misshapen, Word, STOP, SETC, COPY, ADDW, SUBW, MULW, DIVF, LOAD, STOR, JUMP, BLTU, BEQU, LEAS, MOST, STRP, DIVM, TURN, Option, None, Some, Content, a_register, a_variable, a_target, a_width, a_table, a_scale, an_offset, a_number, a_choice, an_operand, a_claimed, a_bound, Kind, empty, plain, optional, signed}
use Rattle.model.specs.Limits.{registers, tables, variables, MAX, greatest_size, greatest_offset, greatest_points, StripeLimits}
use Rattle.model.specs.Text.{value_in}

-- the bytes of a text
abbrev pub bytes : String → List ℕ
bytes end = []
bytes (c then s) = code c ∷ bytes s

-- the four bytes of a word
abbrev pub text_of : Word → List ℕ
text_of STOP = bytes "STOP"
text_of SETC = bytes "SETC"
text_of COPY = bytes "COPY"
text_of ADDW = bytes "ADDW"
text_of SUBW = bytes "SUBW"
text_of MULW = bytes "MULW"
text_of DIVF = bytes "DIVF"
text_of LOAD = bytes "LOAD"
text_of STOR = bytes "STOR"
text_of JUMP = bytes "JUMP"
text_of BLTU = bytes "BLTU"
text_of BEQU = bytes "BEQU"
text_of LEAS = bytes "LEAS"
text_of MOST = bytes "MOST"
text_of STRP = bytes "STRP"
text_of DIVM = bytes "DIVM"
text_of TURN = bytes "TURN"

-- all words
abbrev pub words : List Word
words =
    STOP ∷ SETC ∷ COPY ∷ ADDW ∷ SUBW ∷ MULW ∷ DIVF ∷ LOAD ∷ STOR ∷ JUMP ∷ BLTU ∷ BEQU ∷ LEAS ∷ MOST ∷ STRP ∷ DIVM ∷ TURN ∷ []

-- the line begins with the four bytes
unfoldable pub begins : List ℕ → List ℕ → Bool
begins l t =
    eqb (get_or l 0 0) (get_or t 0 0) && eqb (get_or l 1 0) (get_or t 1 0) && eqb (get_or l 2 0) (get_or t 2 0) && eqb (get_or l 3 0) (get_or t 3 0)

-- the word of the list that the line begins with
unfoldable pub word_among : List Word → List ℕ → Option Word
unfolding begins
word_among [] l = None
word_among (w ∷ ws) l = cond (begins l (text_of w)) (Some w) (word_among ws l)

-- a row of the table below: what F1 to F6 are due to hold
abbrev row : Kind → Kind → Kind → Kind → Kind → Kind → List Kind
row f1 f2 f3 f4 f5 f6 = f1 ∷ f2 ∷ f3 ∷ f4 ∷ f5 ∷ f6 ∷ []

-- a field that names a register
abbrev reg : Kind
reg = plain a_register

-- a field that names a variable
abbrev var : Kind
var = plain a_variable

-- the table of the words: a row for each
unfoldable pub fields_of : Word → List Kind
fields_of STOP = row empty empty empty empty empty empty
fields_of SETC = row reg empty empty empty empty (plain a_number)
fields_of COPY = row reg var empty empty empty empty
fields_of ADDW = row reg var empty empty (plain a_choice) (plain an_operand)
fields_of SUBW = row reg var empty empty (plain a_choice) (plain an_operand)
fields_of MULW = row reg var empty empty (plain a_choice) (plain an_operand)
fields_of DIVF = row reg var empty empty (plain a_choice) (plain an_operand)
fields_of LOAD = row reg (plain a_width) (plain a_table) (plain a_scale) var (plain an_offset)
fields_of STOR = row var (plain a_width) empty (plain a_scale) var (plain an_offset)
fields_of JUMP = row empty empty empty (plain a_target) empty empty
fields_of BLTU = row empty var empty (plain a_target) (plain a_choice) (plain an_operand)
fields_of BEQU = row empty var empty (plain a_target) (plain a_choice) (plain an_operand)
fields_of LEAS = row var empty empty empty empty (plain a_claimed)
fields_of MOST = row var empty empty empty empty (plain a_claimed)
fields_of STRP = row var (plain a_scale) var (optional a_variable) empty (signed a_bound)
fields_of DIVM = row reg var reg empty (plain a_choice) (plain an_operand)
fields_of TURN = row reg empty empty empty empty empty

-- which fields are in shape for a kind; a minus never stands on 0
unfoldable pub shaped : Kind → Field → Bool
shaped empty Blank = true
shaped empty (Number v) = false
shaped empty (Negative v) = false
shaped empty Misshapen = false
shaped (plain c) Blank = false
shaped (plain c) (Number v) = true
shaped (plain c) (Negative v) = false
shaped (plain c) Misshapen = false
shaped (optional c) Blank = true
shaped (optional c) (Number v) = true
shaped (optional c) (Negative v) = false
shaped (optional c) Misshapen = false
shaped (signed c) Blank = false
shaped (signed c) (Number v) = true
shaped (signed c) (Negative v) = not (eqb v 0)
shaped (signed c) Misshapen = false

-- within these limits of scales and bounds
module _ (L : StripeLimits) where
  -- the limits of a content; of a bound they are the same with and without a minus. f1 and f5 are the numbers of the line's F1 and F5
  unfoldable pub within : Content → ℕ → ℕ → ℕ → Bool
  within a_register f1 f5 v = ltb v registers
  within a_variable f1 f5 v = ltb v variables
  within a_target f1 f5 v = ltb v greatest_points
  within a_width f1 f5 v = eqb v 1 || eqb v 2 || eqb v 4
  within a_table f1 f5 v = ltb v tables
  within a_scale f1 f5 v = leb 1 v && leb v L.scale
  within an_offset f1 f5 v = leb v greatest_offset
  within a_number f1 f5 v = leb v MAX
  within a_choice f1 f5 v = leb v 1
  within an_operand f1 f5 v = cond (eqb f5 0) (ltb v variables) (leb v MAX)
  within a_claimed f1 f5 v = cond (ltb f1 registers) (leb v MAX) (leb v greatest_size)
  within a_bound f1 f5 v = leb v L.bound

  -- a field of this kind lies within its limits: those of its number, and none where it may be blank and is
  unfoldable pub allowed : Kind → ℕ → ℕ → Field → Bool
  unfolding within shaped
  allowed empty f1 f5 f = true
  allowed (plain c) f1 f5 f = within c f1 f5 (value_in f)
  allowed (optional c) f1 f5 f = shaped empty f || within c f1 f5 (value_in f)
  allowed (signed c) f1 f5 f = within c f1 f5 (value_in f)
