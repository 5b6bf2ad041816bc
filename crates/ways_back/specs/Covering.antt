-- What the code keeps of a listing to test 20: which points are targets, and the TURN register, where it is only taken from.
use Rattle.std.specs.Prelude.{ℕ, ◌<◌, ◌≡◌, Bool, true, false, List, [], ◌∷◌, length, get_or, set, Option}
use Rattle.model.specs.Limits.{greatest_points}
use Rattle.model.specs.Listing.{Point}
use Rattle.model.specs.Bound.{turn_of, is_target}
use Rattle.register_writes.specs.Taken.{only_taken}

-- marks with the targets of an instruction marked
abbrev pub with_targets : List Bool → List ℕ → List Bool
with_targets marks [] = marks
with_targets marks (t ∷ ts) = with_targets (set marks t true) ts

-- no mark
pub record NoneMarked (marks : List Bool) : Type 0 where
  pub long : length marks ≡ greatest_points
  pub none : (p : ℕ) → p < greatest_points → get_or marks p false ≡ false

-- a mark for each target
pub record Marked (marks : List Bool) (ps : List Point) : Type 0 where
  pub long : length marks ≡ greatest_points
  pub each : (p : ℕ) → p < greatest_points → get_or marks p false ≡ is_target ps p

-- both of it
pub record Covering (ps : List Point) (marks : List Bool) (register : Option ℕ) : Type 0 where
  pub marked : Marked marks ps
  pub taken : register ≡ only_taken ps (turn_of ps)
