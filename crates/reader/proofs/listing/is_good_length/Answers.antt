use mathlib.Core.Path.{refl}
use Rattle.model.specs.Listing.{good_length}
use Rattle.reader.proofs.listing.is_good_length.Goals as goal

pub returns : goal.returns
unfolding good_length
returns c = refl
