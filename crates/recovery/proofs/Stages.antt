-- Stage by stage. Assumes nothing.
use mathlib.Core.Path.{refl, sym}
use mathlib.Core.Bool.{false≢true}
use Rattle.recovery.specs.Left.{not_begun, results_made, both_made, results_written, state_written, results_renamed, both_renamed, Mends, MendsAgain}

pub mends : Mends
mends old new not_begun = refl
mends old new results_made = refl
mends old new both_made = refl
mends old new (results_written n) = refl
mends old new (state_written n) = refl
mends old new results_renamed = refl
mends old new both_renamed = refl

pub mends-again : MendsAgain
mends-again old new not_begun e = refl
mends-again old new results_made e = refl
mends-again old new both_made e = refl
mends-again old new (results_written n) e = refl
mends-again old new (state_written n) e = refl
mends-again old new results_renamed e = absurd (false≢true (sym e))
mends-again old new both_renamed e = absurd (false≢true (sym e))
