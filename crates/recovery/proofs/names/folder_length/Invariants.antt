use Rattle.std.proofs.Common.{◌≡◌, ◌≤◌}
use Rattle.recovery.specs.Names.{folder_to}
use Rattle.recovery.proofs.names.folder_length.Given as goal

abbrev pub invariant-loop-i : goal.invariant-loop-i
invariant-loop-i l = record { within : l.n ≤ l.i; last : l.n ≡ folder_to l.path l.i }
