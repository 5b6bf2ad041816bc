-- What is kept of all that writes the TURN register.
use Rattle.std.specs.Prelude.{ℕ, cond, List, Option, None, Some}
use Rattle.model.specs.Lists.{every}
use Rattle.model.specs.Listing.{Point}
use Rattle.model.specs.Bound.{only_takes}

-- the TURN register, where every instruction that writes it only takes from it
abbrev pub only_taken : List Point → Option ℕ → Option ℕ
only_taken ps None = None
only_taken ps (Some r) = cond (every (only_takes r) ps) (Some r) None
