-- What the code's reading of a listing stands for.
use Rattle.std.specs.Prelude.{ℕ, ◌/◌, ◌≤◌, ◌≡◌, List, length, Result, Ok, Err}
use Rattle.model.specs.declared.answers.Refusal.{Refusal}
use Rattle.model.specs.Limits.{line_bytes, greatest_listing}
use Rattle.model.specs.Listing.{Listing, read_as, refused_listing}
use Rattle.line_rows.specs.declared.rows.Row.{Row}
use Rattle.rows_and_places.specs.declared.places.Place.{Place}
use Rattle.rows_and_places.specs.Points.{points_in, Holds}

-- room for what is kept of a listing: a row for each of its lines
abbrev pub Room : List ℕ → List Row → Type 0
Room s rows = length s ≤ greatest_listing → length s / line_bytes ≤ length rows

-- the code's reading is the model's: rows and places hold so many points of it, or it is turned back by the same refusal
abbrev pub Stands : Listing → Result ℕ Refusal → List Row → List Place → Type 0
Stands (read_as ps) (Ok n) rows at = (points_in rows at n ≡ ps) × Holds rows at n
Stands (read_as ps) (Err r) rows at = ⊥
Stands (refused_listing x) (Ok n) rows at = ⊥
Stands (refused_listing x) (Err r) rows at = r ≡ x
