-- The bounds of what is known along an edge and at a point, within which the 64-bit arithmetic of the code is exact.
use Rattle.std.specs.Prelude.{ℕ, ◌≡◌, ◌≤◌, List, [], length, replicate}
use Rattle.std.specs.List.{All}
use Rattle.model.specs.declared.claims.Range.{Range}
use Rattle.model.specs.Limits.{variables, MAX, greatest_stripes}
use Rattle.model.specs.Facts.{Facts, exactly, lo, hi}
use Rattle.model.specs.Limited.{StripeLimited}

-- what is known before anything is written
abbrev pub unwritten : Facts
unwritten = record { ranges = replicate variables (exactly 0); stripes = [] }

-- both ends are values of a register
pub record Word (r : Range) : Type 0 where
  pub low : r.lo ≤ MAX
  pub high : r.hi ≤ MAX

-- a range for each variable, whose high end is a value of a register
pub record HighWords (rs : List Range) : Type 0 where
  pub long : length rs ≡ variables
  pub highs : (v : ℕ) → hi rs v ≤ MAX

-- every low end is a value of a register, as at a point, and along an edge that is possible
abbrev pub LowWords : List Range → Type 0
LowWords rs = (v : ℕ) → lo rs v ≤ MAX

-- what the claims of a point can state: low ends are values of a register too, and the stripes are those that lines can hold
pub record AtPoint (f : Facts) : Type 0 where
  pub lows : LowWords f.ranges
  pub limited : All StripeLimited f.stripes
  pub few : length f.stripes ≤ greatest_stripes
