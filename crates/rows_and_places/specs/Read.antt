-- What is kept of the lines that were read, line by line: a row for each, and a place for each point.
use Rattle.std.specs.Prelude.{ℕ, ◌+◌, ◌-◌, ◌≤◌, ◌<◌, ◌≡◌, List, cond, length, set, leb, Option, None, Some, Result, MatchResult}
use Rattle.model.specs.declared.claims.Claim.{Claim}
use Rattle.model.specs.declared.claims.Line.{Line}
use Rattle.model.specs.declared.claims.Line.TheVariants.{Refused as refused_line}
use Rattle.model.specs.declared.answers.Refusal.{Refusal}
use Rattle.model.specs.Limits.{greatest_points}
use Rattle.model.specs.Listing.{Point, point_at, Reading, going, refused_reading}
use Rattle.line_rows.specs.declared.rows.Row.{Row}
use Rattle.decoded.specs.Decoded.{claims_from, line_of_row}
use Rattle.scan.specs.declared.Order.{Order}
use Rattle.scan.specs.declared.Scan.{Scan}
use Rattle.rows_and_places.specs.declared.places.Place.{Place}
use Rattle.rows_and_places.specs.Points.{line_in, point_in, ClaimRows, Placed}

-- what is read of a line: a row that holds it, or what turns it back
abbrev pub ReadAs : Line → Result Row Refusal → Type 0
ReadAs l x = MatchResult x (λ r. line_of_row r ≡ l) (λ e. l ≡ refused_line e)

-- a point on the k-th line noted in its place; there is none past the point that is one too many
abbrev pub point_noted : List Place → Scan → ℕ → List Place
point_noted at q k = cond (leb q.points greatest_points) (set at q.points (record { line = k + 1; claims = q.claims })) at

-- the k-th line noted, where it is an instruction
abbrev pub noted : List Place → Scan → ℕ → Option Order → List Place
noted at q k None = point_noted at q k
noted at q k (Some c) = at

-- place p holds the point q, on one of n lines
pub record HoldsPoint (rows : List Row) (at : List Place) (n p : ℕ) (q : Point) : Type 0 where
  pub placed : Placed rows at p
  pub line : line_in at p ≤ n
  pub is : point_in rows at p ≡ q

-- n lines were read as these points, and the claims since the last of them
pub record Scanned (rows : List Row) (at : List Place) (n : ℕ) (ps : List Point) (cs : List Claim) : Type 0 where
  pub points : length ps ≤ n
  pub claims : length cs ≤ n
  pub some : 1 ≤ n → 1 ≤ length ps + length cs
  pub waiting : ClaimRows rows (n - length cs) (length cs)
  pub gathered : claims_from rows (n - length cs) (length cs) ≡ cs
  pub each : (p : ℕ) → p < length ps → p ≤ greatest_points → HoldsPoint rows at n p (point_at ps p)

-- the same of a reading that goes on; of one that is turned back nothing is known
abbrev pub ScannedSo : List Row → List Place → ℕ → Reading → Type 0
ScannedSo rows at n (going ps cs) = Scanned rows at n ps cs
ScannedSo rows at n (refused_reading r) = Unit {0}

-- so many points and claims were read, at least one of both
pub record AllRead (rows : List Row) (at : List Place) (q : Scan) : Type 0 where
  pub some : 1 ≤ q.points + q.claims
  pub each : (p : ℕ) → p < q.points → p ≤ greatest_points → Placed rows at p
