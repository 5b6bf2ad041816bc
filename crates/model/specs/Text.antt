-- Document 01, 'The machine': how a number stands in its columns, read and written.
-- The columns are read as a shape and as digits, each a fold over the columns from the left; the writer sets them from the right.
-- The number of columns is a parameter: four for F1 to F5, fifteen for F6.
use Rattle.std.specs.Prelude.{ℕ, zero, suc, ◌+◌, ◌*◌, ◌-◌, ◌/◌, ◌%◌, ◌^◌, ◌<◌, Bool, ◌&&◌, cond, List, get_or, set, leb, ltb, eqb}
use Rattle.model.specs.Types.{Shape, Spaces, Zero, Digits, Sign, Signed, Wrong, Field, Blank, Number, Negative, Misshapen}

-- the byte that fills a field to the left of a number
abbrev pub space : ℕ
space = 32

-- the byte of a minus
abbrev pub minus_sign : ℕ
minus_sign = 45

-- the byte of the digit 0
abbrev pub digit_zero : ℕ
digit_zero = 48

-- the byte that ends a line
abbrev pub line_end : ℕ
line_end = 10

-- a decimal digit
unfoldable pub is_digit : ℕ → Bool
is_digit b = leb digit_zero b && leb b (digit_zero + 9)

-- the value of a digit, and 0 for any other byte
unfoldable pub digit_of : ℕ → ℕ
unfolding is_digit
digit_of b = cond (is_digit b) (b - digit_zero) 0

-- the shape of the columns so far and the next byte: spaces come first, then at most one minus, then digits, of which 0 leads only alone and without a minus
unfoldable pub next_shape : Shape → ℕ → Shape
unfolding is_digit
next_shape Spaces b =
    cond (eqb b space) Spaces (cond (eqb b minus_sign) Sign (cond (eqb b digit_zero) Zero (cond (is_digit b) Digits Wrong)))
next_shape Zero b = Wrong
next_shape Digits b = cond (is_digit b) Digits Wrong
next_shape Sign b = cond (eqb b digit_zero) Wrong (cond (is_digit b) Signed Wrong)
next_shape Signed b = cond (is_digit b) Signed Wrong
next_shape Wrong b = Wrong

-- the shape of n columns from column at on, columns counted from 0
unfoldable pub shape_of : List ℕ → ℕ → ℕ → Shape
unfolding next_shape
shape_of s at zero = Spaces
shape_of s at (suc n) = next_shape (shape_of s at n) (get_or s (at + n) 0)

-- the number that the digits of n columns give
unfoldable pub digits_of : List ℕ → ℕ → ℕ → ℕ
unfolding digit_of
digits_of s at zero = 0
digits_of s at (suc n) = digits_of s at n * 10 + digit_of (get_or s (at + n) 0)

-- as a promise: what n columns give is less than 10 ^ n, however many they are
abbrev pub DigitsBelow : Type 0
DigitsBelow = (s : List ℕ) (at n : ℕ) → digits_of s at n < 10 ^ n

-- the field of a shape and a number
abbrev pub field_from : Shape → ℕ → Field
field_from Spaces v = Blank
field_from Zero v = Number v
field_from Digits v = Number v
field_from Sign v = Misshapen
field_from Signed v = Negative v
field_from Wrong v = Misshapen

-- the field that n columns hold
unfoldable pub field_of : List ℕ → ℕ → ℕ → Field
unfolding shape_of digits_of
field_of s at n = field_from (shape_of s at n) (digits_of s at n)

-- the number of a field, without its minus; 0 where there is none
abbrev pub value_in : Field → ℕ
value_in Blank = 0
value_in (Number v) = v
value_in (Negative v) = v
value_in Misshapen = 0

-- writing: the shape of the columns that hold a field
abbrev pub shape_for : Field → Shape
shape_for Blank = Spaces
shape_for (Number v) = cond (eqb v 0) Zero Digits
shape_for (Negative v) = cond (eqb v 0) Wrong Signed
shape_for Misshapen = Wrong

-- writing: the byte of the last column
abbrev pub last_byte : Shape → ℕ → ℕ
last_byte Spaces v = space
last_byte Zero v = digit_zero
last_byte Digits v = digit_zero + v % 10
last_byte Sign v = minus_sign
last_byte Signed v = digit_zero + v % 10
last_byte Wrong v = space

-- writing: the shape of the columns before the last
abbrev pub shape_before : Shape → ℕ → Shape
shape_before Spaces v = Spaces
shape_before Zero v = Spaces
shape_before Digits v = cond (ltb v 10) Spaces Digits
shape_before Sign v = Spaces
shape_before Signed v = cond (ltb v 10) Sign Signed
shape_before Wrong v = Wrong

-- n columns from column at on, set to a shape with a number
unfoldable pub columns_set : List ℕ → ℕ → ℕ → Shape → ℕ → List ℕ
columns_set s at zero f v = s
columns_set s at (suc n) f v = columns_set (set s (at + n) (last_byte f v)) at n (shape_before f v) (v / 10)

-- n columns from column at on, set to a field
unfoldable pub field_set : List ℕ → ℕ → ℕ → Field → List ℕ
unfolding columns_set
field_set s at n f = columns_set s at n (shape_for f) (value_in f)
