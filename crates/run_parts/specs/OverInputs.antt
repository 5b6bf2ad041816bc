-- The run over the files that were read.
use Rattle.model.specs.Run.{Ran}
use Rattle.run_parts.specs.declared.inputs.Inputs.{Inputs}
use Rattle.run_parts.specs.FileRun.{run_of}

-- the run of what was read, by the definition over bytes
abbrev pub run_over : Inputs → Ran
run_over i = run_of i.listing.now i.trays.now i.results.now i.state.now i.budget.now
