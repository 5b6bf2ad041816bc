-- The line of each row. A number of the machine is taken modulo its size, so that every row gives a line.
use Rattle.std.specs.Prelude.{ℕ, zero, suc, ◌+◌, ◌%◌, cond, List, [], ◌∷◌, ◌++◌, eqb}
use Rattle.model.specs.Limits as Limits
use Rattle.model.specs.declared.text.Word.{Word}
use Rattle.model.specs.declared.text.Word.TheVariants.{Stop as STOP, Setc as SETC, Copy as COPY, Addw as ADDW, Subw as SUBW, Mulw as MULW, Divf as DIVF, Load as LOAD, Stor as STOR, Jump as JUMP, Bltu as BLTU, Bequ as BEQU, Leas as LEAS, Most as MOST, Strp as STRP, Divm as DIVM, Turn as TURN}
use Rattle.model.specs.declared.machine.Operand.{Operand}
use Rattle.model.specs.declared.machine.Operand.TheVariants.{Variable as variable, Number as number}
use Rattle.model.specs.declared.machine.Instruction.{Instruction}
use Rattle.model.specs.declared.machine.Instruction.TheVariants.{Stop, Setc, Copy, Addw, Subw, Mulw, Divf, Load, Stor, Jump, Bltu, Bequ, Divm}
use Rattle.model.specs.declared.claims.Stripe.{Stripe}
use Rattle.model.specs.declared.claims.Claim.{Claim}
use Rattle.model.specs.declared.claims.Claim.TheVariants.{Leas, Most, Strp, Turn}
use Rattle.model.specs.declared.claims.Line.{Line}
use Rattle.model.specs.declared.claims.Line.TheVariants.{Refused as refused_line, Claim as claim_line, Instruction as instruction_line}
use Rattle.model.specs.Lines.{width_from, table_from}
use Rattle.line_rows.specs.declared.rows.Row.{Row}
use Rattle.line_rows.specs.Rows.{row_at}

-- the operand of a choice and a number
abbrev pub operand_in : ℕ → ℕ → Operand
operand_in choice n = cond (eqb choice 0) (variable n) (number (n % Limits.modulus))

-- the operand of a row: F5 chooses, F6 is the variable or the number
abbrev pub operand_of : Row → Operand
operand_of r = operand_in r.fifth r.sixth

-- the stripe of a row
abbrev pub stripe_from : Row → Stripe
stripe_from r = record { x = r.first % 256; a = r.second % 65536; y = r.third % 256; z = r.fourth % 256; plus = r.sixth; minus = r.seventh }

-- the line of a word with the numbers of a row
abbrev pub line_of : Word → Row → Line
line_of STOP r = instruction_line Stop
line_of SETC r = instruction_line (Setc r.first (r.sixth % Limits.modulus))
line_of COPY r = instruction_line (Copy r.first r.second)
line_of ADDW r = instruction_line (Addw r.first r.second (operand_of r))
line_of SUBW r = instruction_line (Subw r.first r.second (operand_of r))
line_of MULW r = instruction_line (Mulw r.first r.second (operand_of r))
line_of DIVF r = instruction_line (Divf r.first r.second (operand_of r))
line_of LOAD r = instruction_line (Load r.first (width_from r.second) (table_from r.third) r.fourth r.fifth r.sixth)
line_of STOR r = instruction_line (Stor r.first (width_from r.second) r.fourth r.fifth r.sixth)
line_of JUMP r = instruction_line (Jump r.fourth)
line_of BLTU r = instruction_line (Bltu r.second r.fourth (operand_of r))
line_of BEQU r = instruction_line (Bequ r.second r.fourth (operand_of r))
line_of LEAS r = claim_line (Leas r.first r.sixth)
line_of MOST r = claim_line (Most r.first r.sixth)
line_of STRP r = claim_line (Strp (stripe_from r))
line_of DIVM r = instruction_line (Divm r.first r.second r.third (operand_of r))
line_of TURN r = claim_line (Turn r.first)

-- the line of a row
abbrev pub line_of_row : Row → Line
line_of_row r = line_of r.word r

-- the instruction of a row that holds this line; where it is none, BEQU with the same numbers
abbrev pub instruction_in : Row → Line → Instruction
instruction_in r (instruction_line i) = i
instruction_in r (claim_line c) = Bequ r.second r.fourth (operand_of r)
instruction_in r (refused_line e) = Bequ r.second r.fourth (operand_of r)

-- the instruction of a row
abbrev pub instruction_from : Row → Instruction
instruction_from r = instruction_in r (line_of_row r)

-- the claim of a row that holds this line; where it is none, TURN with the same numbers
abbrev pub claim_in : Row → Line → Claim
claim_in r (claim_line c) = c
claim_in r (instruction_line i) = Turn r.first
claim_in r (refused_line e) = Turn r.first

-- the claim of a row
abbrev pub claim_from : Row → Claim
claim_from r = claim_in r (line_of_row r)

-- the claims of n rows from row from on
unfoldable pub claims_from : List Row → ℕ → ℕ → List Claim
claims_from rows from zero = []
claims_from rows from (suc n) = claims_from rows from n ++ (claim_from (row_at rows (from + n)) ∷ [])
