-- So many steps are made and led to this point, these values and these bytes. Assumes nothing.
use Rattle.model.specs.Listing.{listing_of, points_of}
use Rattle.model.specs.Machine.{lent, sizes_of}
use Rattle.steps.specs.Stepped.{config}
use Rattle.run_loop.proofs.RunLoop.{Going}
use Rattle.run_loop.proofs.run_code.Given as goal

abbrev pub invariant-loop-made : goal.invariant-loop-made
invariant-loop-made l = Going (points_of (listing_of l.listing)) (sizes_of (lent l.trays l.initial.results)) l.budget (config l.initial.point l.initial.values (lent l.trays l.initial.results)) l.made l.point l.values (lent l.trays l.results)
