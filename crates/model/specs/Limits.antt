-- The counts and limits of document 01, each under one name.
-- The greatest scale and the greatest bound stand in a record too, which the definitions that ask for them take first: document 02 moves both
-- and promises what holds of a listing that passed within document 01's.
use Rattle.std.specs.Prelude.{ℕ, ◌+◌, ◌/◌}

-- the registers, variables 0 to 15
abbrev pub registers : ℕ
registers = 16

-- the tables; the variable after the registers is the size of the first, and so on
abbrev pub tables : ℕ
tables = 2

-- all variables
abbrev pub variables : ℕ
variables = registers + tables

-- stands for a blank z: one past the last variable, where every value is 0
abbrev pub blank_variable : ℕ
blank_variable = variables

-- 'MAX': the greatest value of a register
abbrev pub MAX : ℕ
MAX = 4294967295

-- sums, differences and products are reduced modulo this
abbrev pub modulus : ℕ
modulus = 4294967296

-- the greatest size of a table in bytes
abbrev pub greatest_size : ℕ
greatest_size = 65536

-- the greatest scale of a stripe or an access, by document 02's T-07
abbrev pub greatest_scale : ℕ
greatest_scale = 4095

-- the greatest offset of an access
abbrev pub greatest_offset : ℕ
greatest_offset = 65535

-- the greatest bound of a stripe, with or without a minus, by document 02's T-07
abbrev pub greatest_bound : ℕ
greatest_bound = 70368744177664

-- the greatest number of points; targets lie below it
abbrev pub greatest_points : ℕ
greatest_points = 512

-- the greatest number of stripes at a point
abbrev pub greatest_stripes : ℕ
greatest_stripes = 8

-- the links within which a stripe goal must follow
abbrev pub greatest_links : ℕ
greatest_links = 3

-- the bytes of a line
abbrev pub line_bytes : ℕ
line_bytes = 40

-- the greatest number of bytes of a listing
abbrev pub greatest_listing : ℕ
greatest_listing = 65520

-- the greatest number of lines of a listing
abbrev pub greatest_lines : ℕ
greatest_lines = greatest_listing / line_bytes

-- the limits of stripes and accesses that document 02 moves
pub record StripeLimits : Type 0 where
  pub scale : ℕ
  pub bound : ℕ

-- the limits of document 02's T-07, by which every call answers
abbrev pub today : StripeLimits
today = record { scale = greatest_scale; bound = greatest_bound }

-- the limits of document 01
abbrev pub earlier : StripeLimits
earlier = record { scale = 255; bound = 4398046511104 }
