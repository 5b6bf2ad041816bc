use Rattle.operations.proofs.Accesses.{stored}
use Rattle.operations.proofs.bytes.store_bytes.Goals as goal

pub returns : goal.returns
returns g c = stored _ _ _ _ _ c.requires.0 c.requires.1 (rw (← c.to_le_bytes-bytes.ensures) c.copy_from_slice.ensures.after)
