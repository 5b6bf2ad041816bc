-- Document 01, 'The machine' and 'Claims': the limits of the operands, instructions, stripes and claims that an accepted line can hold.
-- The contracts of the code ask for them; that every line that is read keeps them is proved.
use Rattle.std.specs.Prelude.{ℕ, ◌+◌, ◌^◌, ◌≤◌, ◌<◌, ◌≡◌}
use Rattle.model.specs.Types.{Width, Operand, variable, number, Instruction, Stop, Setc, Copy, Addw, Subw, Mulw, Divf, Load, Stor, Jump, Bltu, Bequ, Divm, Stripe, Claim, Leas, Most, Strp, Turn, Line, refused_line, claim_line, instruction_line}
use Rattle.model.specs.Limits.{registers, variables, blank_variable, MAX, greatest_scale, greatest_offset, greatest_bound, greatest_points}
use Rattle.model.specs.Facts.{unclaimed_range}
use Rattle.model.specs.Machine.{bytes_of, address}

-- an operand: a variable, or a number that a register can hold
abbrev pub OperandLimited : Operand → Type 0
OperandLimited (variable v) = v < variables
OperandLimited (number n) = n ≤ MAX

-- the fields of ADDW, SUBW, MULW and DIVF
pub record ArithmeticLimited (d i : ℕ) (o : Operand) : Type 0 where
  pub register : d < registers
  pub variable : i < variables
  pub operand : OperandLimited o

-- the fields of DIVM, whose two registers differ
pub record DivisionLimited (q i r : ℕ) (o : Operand) : Type 0 where
  pub arithmetic : ArithmeticLimited q i o
  pub register : r < registers
  pub differ : q ≡ r → ⊥

-- the address of LOAD and STOR
pub record AccessLimited (a i k : ℕ) : Type 0 where
  pub scaled : 1 ≤ a
  pub scale : a ≤ greatest_scale
  pub variable : i < variables
  pub offset : k ≤ greatest_offset

-- as a promise: an access ends below 2 to the 45th byte, whatever value its variable has, so that 64 bits hold its address
abbrev pub AccessEndsBelow : Type 0
AccessEndsBelow = (a i k x : ℕ) (w : Width) → AccessLimited a i k → x ≤ MAX → address a x k + bytes_of w < 2 ^ 45

-- the fields of BLTU and BEQU
pub record BranchLimited (i t : ℕ) (o : Operand) : Type 0 where
  pub variable : i < variables
  pub target : t < greatest_points
  pub operand : OperandLimited o

-- a stripe; a blank z is the blank variable
pub record StripeLimited (s : Stripe) : Type 0 where
  pub x : s.x < variables
  pub scaled : 1 ≤ s.a
  pub scale : s.a ≤ greatest_scale
  pub y : s.y < variables
  pub z : s.z ≤ blank_variable
  pub plus : s.plus ≤ greatest_bound
  pub minus : s.minus ≤ greatest_bound

-- an instruction
abbrev pub Limited : Instruction → Type 0
Limited Stop = Unit {0}
Limited (Setc d c) = (d < registers) × (c ≤ MAX)
Limited (Copy d i) = (d < registers) × (i < variables)
Limited (Addw d i o) = ArithmeticLimited d i o
Limited (Subw d i o) = ArithmeticLimited d i o
Limited (Mulw d i o) = ArithmeticLimited d i o
Limited (Divf d i o) = ArithmeticLimited d i o
Limited (Load d w b a i k) = (d < registers) × AccessLimited a i k
Limited (Stor v w a i k) = (v < variables) × AccessLimited a i k
Limited (Jump t) = t < greatest_points
Limited (Bltu i t o) = BranchLimited i t o
Limited (Bequ i t o) = BranchLimited i t o
Limited (Divm q i r o) = DivisionLimited q i r o

-- a claim; LEAS and MOST are at most the unclaimed end of their variable
abbrev pub ClaimLimited : Claim → Type 0
ClaimLimited (Leas v n) = (v < variables) × (n ≤ (unclaimed_range v).hi)
ClaimLimited (Most v n) = (v < variables) × (n ≤ (unclaimed_range v).hi)
ClaimLimited (Strp s) = StripeLimited s
ClaimLimited (Turn r) = r < registers

-- a line, by what it holds
abbrev pub LineLimited : Line → Type 0
LineLimited (refused_line r) = Unit {0}
LineLimited (claim_line c) = ClaimLimited c
LineLimited (instruction_line i) = Limited i
