use Rattle.operations.proofs.Accesses.{loaded}
use Rattle.std.proofs.Common.{◌∙◌}
use Rattle.operations.proofs.bytes.load_bytes.Goals as goal

pub returns : goal.returns
returns g c = c.from_le_bytes.ensures ∙ loaded _ _ _ _ c.requires.0 c.requires.1 c.copy_from_slice.ensures.after
