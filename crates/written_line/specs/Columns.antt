-- A field in its columns, written and read: the two laws over any number of columns, which those over whole lines rest on.
use Rattle.std.specs.Prelude.{ℕ, ◌+◌, ◌-◌, ◌^◌, ◌<◌, ◌≤◌, ◌≡◌, List, length}
use Rattle.model.specs.declared.text.Field.{Field}
use Rattle.model.specs.declared.text.Field.TheVariants.{Blank, Number, Negative, Misshapen}
use Rattle.model.specs.Text.{field_of, field_set}

-- a field that n columns have room for: a number of at most n digits, or of one less after a minus, which stands on no 0
unfoldable pub Fits : ℕ → Field → Type 0
Fits n Blank = Unit {0}
Fits n (Number v) = (0 < n) × (v < 10 ^ n)
Fits n (Negative v) = (1 < n) × (0 < v) × (v < 10 ^ (n - 1))
Fits n Misshapen = ⊥

-- a field that columns can hold
abbrev pub Taken : Field → Type 0
Taken Blank = Unit {0}
Taken (Number v) = Unit {0}
Taken (Negative v) = Unit {0}
Taken Misshapen = ⊥

-- what is written into n columns that have room for it is read from them again
abbrev pub FieldIsRead : Type 0
FieldIsRead = (s : List ℕ) (at n : ℕ) (f : Field) → at + n ≤ length s → Fits n f → field_of (field_set s at n f) at n ≡ f

-- n columns that hold a field stay as they are where this field is written into them
abbrev pub FieldIsSet : Type 0
FieldIsSet = (s : List ℕ) (at n : ℕ) → Taken (field_of s at n) → field_set s at n (field_of s at n) ≡ s
