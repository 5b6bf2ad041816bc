-- Document 01, 'The machine', with document 02's word DIVM: what can be asked of an instruction, a case for each word: the registers that it writes, the variables that
-- it reads, its targets, and whether it goes on. Every other question of this sort is answered from these.
use Rattle.std.specs.Prelude.{ℕ, Bool, true, false, not, ◌&&◌, List, [], ◌∷◌}
use Rattle.model.specs.Types.{Operand, variable, number, Instruction, Stop, Setc, Copy, Addw, Subw, Mulw, Divf, Load, Stor, Jump, Bltu, Bequ, Divm}
use Rattle.model.specs.Lists.{is_empty}

-- the registers that an instruction writes
abbrev pub writes : Instruction → List ℕ
writes Stop = []
writes (Setc d c) = d ∷ []
writes (Copy d i) = d ∷ []
writes (Addw d i o) = d ∷ []
writes (Subw d i o) = d ∷ []
writes (Mulw d i o) = d ∷ []
writes (Divf d i o) = d ∷ []
writes (Load d w b a i k) = d ∷ []
writes (Stor v w a i k) = []
writes (Jump t) = []
writes (Bltu i t o) = []
writes (Bequ i t o) = []
writes (Divm q i r o) = q ∷ r ∷ []

-- the variable of an operand, if it is one
abbrev pub operand_reads : Operand → List ℕ
operand_reads (variable v) = v ∷ []
operand_reads (number n) = []

-- the variables whose values an instruction reads
abbrev pub reads : Instruction → List ℕ
reads Stop = []
reads (Setc d c) = []
reads (Copy d i) = i ∷ []
reads (Addw d i o) = i ∷ operand_reads o
reads (Subw d i o) = i ∷ operand_reads o
reads (Mulw d i o) = i ∷ operand_reads o
reads (Divf d i o) = i ∷ operand_reads o
reads (Load d w b a i k) = i ∷ []
reads (Stor v w a i k) = v ∷ i ∷ []
reads (Jump t) = []
reads (Bltu i t o) = i ∷ operand_reads o
reads (Bequ i t o) = i ∷ operand_reads o
reads (Divm q i r o) = i ∷ operand_reads o

-- the points that an instruction names as targets
abbrev pub targets : Instruction → List ℕ
targets Stop = []
targets (Setc d c) = []
targets (Copy d i) = []
targets (Addw d i o) = []
targets (Subw d i o) = []
targets (Mulw d i o) = []
targets (Divf d i o) = []
targets (Load d w b a i k) = []
targets (Stor v w a i k) = []
targets (Jump t) = t ∷ []
targets (Bltu i t o) = t ∷ []
targets (Bequ i t o) = t ∷ []
targets (Divm q i r o) = []

-- an instruction that may go on to the next point: any but STOP and JUMP
abbrev pub goes_on : Instruction → Bool
goes_on Stop = false
goes_on (Setc d c) = true
goes_on (Copy d i) = true
goes_on (Addw d i o) = true
goes_on (Subw d i o) = true
goes_on (Mulw d i o) = true
goes_on (Divf d i o) = true
goes_on (Load d w b a i k) = true
goes_on (Stor v w a i k) = true
goes_on (Jump t) = false
goes_on (Bltu i t o) = true
goes_on (Bequ i t o) = true
goes_on (Divm q i r o) = true

-- an instruction that names a target
abbrev pub has_target : Instruction → Bool
has_target i = not (is_empty (targets i))

-- STOP: it neither goes on nor names a target
abbrev pub is_stop : Instruction → Bool
is_stop i = not (goes_on i) && not (has_target i)

-- JUMP: it names a target and does not go on
abbrev pub is_jump : Instruction → Bool
is_jump i = not (goes_on i) && has_target i
