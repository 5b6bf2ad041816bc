-- The two parts of what a point claims of the values, tested one after the other.
use Rattle.std.specs.Prelude.{ℕ, Bool, List}
use Rattle.model.specs.declared.claims.Range.{Range}
use Rattle.model.specs.Limits.{variables}
use Rattle.model.specs.Lists.{every_below}
use Rattle.model.specs.Facts.{range_of, in_range, value_at}

-- the value of a variable lies in its range
abbrev pub in_own_range : List ℕ → List Range → ℕ → Bool
in_own_range vs rs v = in_range (value_at vs v) (range_of rs v)

-- every variable does
unfoldable pub in_ranges : List ℕ → List Range → Bool
in_ranges vs rs = every_below (in_own_range vs rs) variables
