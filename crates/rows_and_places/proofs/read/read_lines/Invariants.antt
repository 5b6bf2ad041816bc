-- The loop keeps what was read, the rows and the places equal to the definitions. Assumes nothing.
use mathlib.Core.Path.{◌≡◌}
use lib.ListN.{length}
use Rattle.std.specs.Prelude.{Ok}
use Rattle.model.specs.Limits.{today}
use Rattle.model.specs.Listing.{read_to}
use Rattle.scan.specs.Scan.{progress_of}
use Rattle.rows_and_places.specs.Read.{ScannedSo}
use Rattle.rows_and_places.proofs.read.read_lines.Given as goal

abbrev pub invariant-loop-k : goal.invariant-loop-k
invariant-loop-k l = record {
  long : length l.rows ≡ length l.initial.rows;
  scanned : ScannedSo l.rows l.at l.k (read_to today l.listing l.k);
  scan : Ok l.scan ≡ progress_of (read_to today l.listing l.k);
}
