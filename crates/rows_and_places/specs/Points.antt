-- The points of the model as rows and places hold them. A row holds a line; a place holds a point's line and how many claims it has.
-- The claims of a point stand in the rows just before that of its instruction.
use Rattle.std.specs.Prelude.{ℕ, zero, suc, ◌+◌, ◌-◌, ◌≤◌, ◌<◌, ◌≡◌, true, List, [], ◌∷◌, ◌++◌, length, get_or}
use Rattle.model.specs.Limits.{greatest_points, greatest_stripes, greatest_lines}
use Rattle.model.specs.Limited.{Limited, ClaimLimited}
use Rattle.model.specs.Instructions.{targets, goes_on}
use Rattle.model.specs.Listing.{Point, stripes_among}
use Rattle.line_rows.specs.declared.rows.Row.{Row}
use Rattle.line_rows.specs.Rows.{row_at}
use Rattle.decoded.specs.Decoded.{instruction_from, claim_from, claims_from}
use Rattle.rows_and_places.specs.declared.places.Place.{Place}

-- a place that holds no point
abbrev pub no_place : Place
no_place = record { line = 0; claims = 0 }

-- place p
abbrev pub place_in : List Place → ℕ → Place
place_in at p = get_or at p no_place

-- the line in place p
abbrev pub line_in : List Place → ℕ → ℕ
line_in at p = (place_in at p).line

-- the number of claims in place p
abbrev pub number_in : List Place → ℕ → ℕ
number_in at p = (place_in at p).claims

-- the row of the first claim of place p
abbrev pub first_in : List Place → ℕ → ℕ
first_in at p = line_in at p - number_in at p - 1

-- a point by its line and the number of its claims
abbrev pub point_on : List Row → ℕ → ℕ → Point
point_on rows line n = record { line = line; claims = claims_from rows (line - n - 1) n; instruction = instruction_from (row_at rows (line - 1)) }

-- point p
abbrev pub point_in : List Row → List Place → ℕ → Point
point_in rows at p = point_on rows (line_in at p) (number_in at p)

-- the first n points
unfoldable pub points_in : List Row → List Place → ℕ → List Point
points_in rows at zero = []
points_in rows at (suc n) = points_in rows at n ++ (point_in rows at n ∷ [])

-- n rows from row from on hold the claims of one point, within their limits
pub record ClaimRows (rows : List Row) (from n : ℕ) : Type 0 where
  pub long : from + n ≤ length rows
  pub few : stripes_among (claims_from rows from n) ≤ greatest_stripes
  pub limited : (j : ℕ) → j < n → ClaimLimited (claim_from (row_at rows (from + j)))

-- the rows up to a line hold a point with n claims, within its limits
pub record PointRows (rows : List Row) (line n : ℕ) : Type 0 where
  pub before : n < line
  pub last : line ≤ greatest_lines
  pub long : line ≤ length rows
  pub limited : Limited (instruction_from (row_at rows (line - 1)))
  pub claims : ClaimRows rows (line - n - 1) n

-- place p holds a point
pub record Placed (rows : List Row) (at : List Place) (p : ℕ) : Type 0 where
  pub few : p ≤ greatest_points
  pub point : PointRows rows (line_in at p) (number_in at p)

-- the first n places hold points
pub record AllPlaced (rows : List Row) (at : List Place) (n : ℕ) : Type 0 where
  pub few : n ≤ greatest_points
  pub each : (p : ℕ) → p < n → Placed rows at p

-- and wherever an instruction of theirs leads is one of them
pub record Holds (rows : List Row) (at : List Place) (n : ℕ) : Type 0 where
  pub all : AllPlaced rows at n
  pub next : (p : ℕ) → p < n → goes_on (point_in rows at p).instruction ≡ true → p + 1 < n
  pub target : (p t : ℕ) → p < n → targets (point_in rows at p).instruction ≡ t ∷ [] → t < n
