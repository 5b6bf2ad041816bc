-- Document 01, 'The machine': what a step makes of a state and the tables.
-- A configuration is a state with the bytes of the tables, so that it is a fact about the step, and no matter of notation, that the trays stay as they are.
-- The tables are one thing and their sizes one list, which follows the registers among the values of all variables.
-- The error state is a case of its own, and so is standing at STOP, which makes no step.
-- The quotient of DIVF is that of document 02's T-02, and DIVM is the word of its T-03.
use Rattle.std.specs.Prelude.{ℕ, zero, suc, ◌+◌, ◌*◌, ◌-◌, ◌/◌, ◌%◌, ◌<◌, ◌≤◌, ◌≡◌, cond, List, [], ◌∷◌, ◌++◌, length, get_or, set, leb, ltb, eqb}
use Rattle.model.specs.Types.{Width, One, Two, Four, Table, Trays, Results, Operand, variable, number, Instruction, Stop, Setc, Copy, Addw, Subw, Mulw, Divf, Load, Stor, Jump, Bltu, Bequ, Divm, State}
use Rattle.model.specs.Limits.{registers, modulus}
use Rattle.model.specs.Facts.{value_at}
use Rattle.model.specs.Listing.{Point, point_at, read_as, listing_of}

-- the bytes of the tables, by the tables' names
pub record Tables : Type 0 where
  pub trays : List ℕ
  pub results : List ℕ

-- the tables that are lent as these bytes
abbrev pub lent : List ℕ → List ℕ → Tables
lent ts rs = record { trays = ts; results = rs }

-- the bytes of a table
abbrev pub table_of : Table → Tables → List ℕ
table_of Trays t = t.trays
table_of Results t = t.results

-- the number of a table, as LOAD names it
abbrev pub table_number : Table → ℕ
table_number Trays = 0
table_number Results = 1

-- the sizes of the tables in bytes, by the tables' numbers
abbrev pub sizes_of : Tables → List ℕ
sizes_of t = length t.trays ∷ length t.results ∷ []

-- the variable that is the size of a table
abbrev pub size_variable : Table → ℕ
size_variable b = registers + table_number b

-- a configuration: a point, the registers, and the bytes of the tables
pub record Config : Type 0 where
  pub point : ℕ
  pub registers : List ℕ
  pub tables : Tables

-- a state with the tables lent to a run
abbrev pub config_of : State → Tables → Config
config_of s t = record { point = s.point; registers = s.registers; tables = t }

-- the state of a configuration
abbrev pub state_of : Config → State
state_of c = record { point = c.point; registers = c.registers }

-- the values of all variables, from the registers and the sizes of the tables
abbrev pub values_from : List ℕ → List ℕ → List ℕ
values_from rs sizes = rs ++ sizes

-- the values of all variables in a configuration
abbrev pub values : Config → List ℕ
values c = values_from c.registers (sizes_of c.tables)

-- the value of an operand among the values of all variables
abbrev pub operand_at : List ℕ → Operand → ℕ
operand_at vs (variable v) = value_at vs v
operand_at vs (number n) = n

-- the value of a variable
abbrev pub value_of : Config → ℕ → ℕ
value_of c v = value_at (values c) v

-- the value of an operand
abbrev pub operand_value : Config → Operand → ℕ
operand_value c o = operand_at (values c) o

-- the number of bytes of a width
abbrev pub bytes_of : Width → ℕ
bytes_of One = 1
bytes_of Two = 2
bytes_of Four = 4

-- w bytes from an address on as a number, least significant first
unfoldable pub read_bytes : ℕ → List ℕ → ℕ → ℕ
read_bytes zero l at = 0
read_bytes (suc w) l at = get_or l at 0 + 256 * read_bytes w l (at + 1)

-- the low w bytes of a number set from an address on, least significant first
unfoldable pub write_bytes : ℕ → List ℕ → ℕ → ℕ → List ℕ
write_bytes zero l at x = l
write_bytes (suc w) l at x = write_bytes w (set l at (x % 256)) (at + 1) (x / 256)

-- a sum as registers hold it
abbrev pub sum : ℕ → ℕ → ℕ
sum x y = (x + y) % modulus

-- a difference as registers hold it
abbrev pub difference : ℕ → ℕ → ℕ
difference x y = (x + (modulus - y)) % modulus

-- a product as registers hold it
abbrev pub product : ℕ → ℕ → ℕ
product x y = x * y % modulus

-- a quotient rounded down
abbrev pub quotient : ℕ → ℕ → ℕ
quotient x y = x / y

-- the quotient of DIVF: the nearest whole number, a half going up
abbrev pub nearest_quotient : ℕ → ℕ → ℕ
nearest_quotient x y = quotient (2 * x + y) (2 * y)

-- q × y is at most half of y above x and less than half below; where it is half, y is even
pub record Nearest (x y q : ℕ) : Type 0 where
  pub above : 2 * (q * y) ≤ 2 * x + y
  pub below : 2 * x < 2 * (q * y) + y
  pub half : 2 * (q * y) ≡ 2 * x + y → y % 2 ≡ 0

-- the promise of T-02: by every divisor above 0 the quotient of DIVF is the nearest whole number, and at most what is divided, so that a register holds it
abbrev pub QuotientIsNearest : Type 0
QuotientIsNearest = (x y : ℕ) → 0 < y → Nearest x y (nearest_quotient x y) × (nearest_quotient x y ≤ x)

-- the remainder of DIVM: what is left of x by the quotient rounded down
abbrev pub remainder : ℕ → ℕ → ℕ
remainder x y = x % y

-- the address of an access, which never wraps
abbrev pub address : ℕ → ℕ → ℕ → ℕ
address a x k = a * x + k

-- on to the next point, with one register written
abbrev pub wrote : Config → ℕ → ℕ → Config
wrote c d x = record { point = c.point + 1; registers = set c.registers d x; tables = c.tables }

-- on to the next point, with two registers written
abbrev pub wrote_both : Config → ℕ → ℕ → ℕ → ℕ → Config
wrote_both c q x r y = record { point = c.point + 1; registers = set (set c.registers q x) r y; tables = c.tables }

-- on to another point
abbrev pub went : Config → ℕ → Config
went c p = record { point = p; registers = c.registers; tables = c.tables }

-- on to the next point with bytes of the results written
abbrev pub stored : Config → List ℕ → Config
stored c rs = record { point = c.point + 1; registers = c.registers; tables = lent c.tables.trays rs }

-- what comes of a step: a configuration; 'stopped' at STOP, which makes no step; or the 'error state'
pub data Step : Type 0 where
  next : Config → Step
  stopped : Step
  error_state : Step

-- the step, if the access lies inside its table
abbrev pub inside : ℕ → Width → List ℕ → Config → Step
inside at w l c = cond (leb (at + bytes_of w) (length l)) (next c) error_state

-- the step of each instruction
unfoldable pub step_of : Instruction → Config → Step
unfolding read_bytes write_bytes
step_of Stop c = stopped
step_of (Setc d x) c = next (wrote c d x)
step_of (Copy d i) c = next (wrote c d (value_of c i))
step_of (Addw d i o) c = next (wrote c d (sum (value_of c i) (operand_value c o)))
step_of (Subw d i o) c = next (wrote c d (difference (value_of c i) (operand_value c o)))
step_of (Mulw d i o) c = next (wrote c d (product (value_of c i) (operand_value c o)))
step_of (Divf d i o) c =
    cond (eqb (operand_value c o) 0) error_state (next (wrote c d (nearest_quotient (value_of c i) (operand_value c o))))
step_of (Load d w b a i k) c =
    inside (address a (value_of c i) k) w (table_of b c.tables) (wrote c d (read_bytes (bytes_of w) (table_of b c.tables) (address a (value_of c i) k)))
step_of (Stor v w a i k) c =
    inside (address a (value_of c i) k) w c.tables.results (stored c (write_bytes (bytes_of w) c.tables.results (address a (value_of c i) k) (value_of c v)))
step_of (Jump t) c = next (went c t)
step_of (Bltu i t o) c = next (went c (cond (ltb (value_of c i) (operand_value c o)) t (c.point + 1)))
step_of (Bequ i t o) c = next (went c (cond (eqb (value_of c i) (operand_value c o)) t (c.point + 1)))
step_of (Divm q i r o) c =
    cond (eqb (operand_value c o) 0) error_state
    (next (wrote_both c q (quotient (value_of c i) (operand_value c o)) r (remainder (value_of c i) (operand_value c o))))

-- the instruction at a configuration's point
abbrev pub instruction_at : List Point → Config → Instruction
instruction_at ps c = (point_at ps c.point).instruction

-- the step from a configuration
abbrev pub step_at : List Point → Config → Step
step_at ps c = step_of (instruction_at ps c) c

-- from c to d the variable i is divided by the operand o: register q holds the quotient after it and register r the remainder, which is below the divisor
pub record DividedExactly (c d : Config) (q i r : ℕ) (o : Operand) : Type 0 where
  pub dividend : value_of c i ≡ value_of d q * operand_value c o + value_of d r
  pub below : value_of d r < operand_value c o

-- the promise of T-03: from every configuration of a listing that is read, the step of a DIVM leaves the quotient and what is left over, whichever registers it overwrites
abbrev pub RemainderIsExact : Type 0
RemainderIsExact =
    (l : List ℕ) (ps : List Point) → listing_of l ≡ read_as ps →
    (c d : Config) → length c.registers ≡ registers →
    (q i r : ℕ) (o : Operand) → instruction_at ps c ≡ Divm q i r o → step_at ps c ≡ next d → DividedExactly c d q i r o

-- where the machine is after some steps: at a configuration, or in the error state
pub data Machine : Type 0 where
  at : Config → Machine
  failed : Machine

-- the configuration after a step; at STOP the same
abbrev pub settled : Config → Step → Machine
settled c (next d) = at d
settled c stopped = at c
settled c error_state = failed

-- one step on; the error state stays
abbrev pub onward : List Point → Machine → Machine
onward ps (at c) = settled c (step_at ps c)
onward ps failed = failed

-- k steps
unfoldable pub steps : List Point → ℕ → Machine → Machine
unfolding step_of
steps ps zero m = m
steps ps (suc k) m = onward ps (steps ps k m)
