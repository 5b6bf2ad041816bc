-- A listing that the code has read and judged by 1 to 14 and 19.
use Rattle.std.specs.Prelude.{◌≡◌, List, ℕ, Ok, Err}
use Rattle.model.specs.Types.{Judgement, accepted, Verdict}
use Rattle.model.specs.Listing.{read_as, listing_of}
use Rattle.model.specs.Check.{listing_judged, check}
use Rattle.line_rows.specs.declared.rows.Row.{Row}
use Rattle.rows_and_places.specs.declared.places.Place.{Place}
use Rattle.rows_and_places.specs.Points.{points_in, Holds}

-- the listing is read as n points, which rows and places hold
pub record Held (s : List ℕ) (rows : List Row) (at : List Place) (n : ℕ) : Type 0 where
  pub points : listing_of s ≡ read_as (points_in rows at n)
  pub holds : Holds rows at n

-- what the checker's answer says of the listing, without the number of its points
abbrev pub judgement_of : Verdict → Judgement
judgement_of (Ok n) = accepted
judgement_of (Err r) = Err r

-- the answer is the checker's, and so is the judgement; where the listing passes, its points are held
pub record Judged (s : List ℕ) (v : Verdict) (rows : List Row) (at : List Place) : Type 0 where
  pub answer : v ≡ check s
  pub judgement : judgement_of v ≡ listing_judged (listing_of s)
  pub held : (n : ℕ) → v ≡ Ok n → Held s rows at n
