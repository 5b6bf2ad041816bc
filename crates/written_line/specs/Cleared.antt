-- What the steps of writing leave in a line: digits in the last columns of a field, and spaces where nothing is written yet.
use Rattle.std.specs.Prelude.{ℕ, ◌+◌, ◌<◌, ◌≤◌, ◌≡◌, Bool, cond, List, get_or, eqb}
use Rattle.model.specs.declared.text.Shape.{Shape}
use Rattle.model.specs.declared.text.Shape.TheVariants.{Spaces, Zero, Digits, Sign, Signed}
use Rattle.model.specs.Text.{space}

-- the shape of columns that end in the digits of a number, after a minus or not
abbrev pub digit_shape : Bool → ℕ → Shape
digit_shape negative v = cond negative Signed (cond (eqb v 0) Zero Digits)

-- the shape of the columns before the digits
abbrev pub left_shape : Bool → Shape
left_shape negative = cond negative Sign Spaces

-- the bytes before column k are the same
unfoldable pub SameBefore : ℕ → List ℕ → List ℕ → Type 0
SameBefore k s t = (j : ℕ) → j < k → get_or s j 0 ≡ get_or t j 0

-- n columns from column at on are spaces
unfoldable pub Cleared : List ℕ → ℕ → ℕ → Type 0
Cleared s at n = (i : ℕ) → i < n → get_or s (at + i) 0 ≡ space

-- the columns of a line from column k on are spaces, but for its end
unfoldable pub ClearedFrom : ℕ → List ℕ → Type 0
ClearedFrom k l = (i : ℕ) → k ≤ i → i < 39 → get_or l i 0 ≡ space
