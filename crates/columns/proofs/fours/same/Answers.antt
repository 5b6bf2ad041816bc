-- Four bytes are the same where the numbers that they give are. Assumes nothing.
use Rattle.std.proofs.Common.{ℕ, ◌<◌, get_or, rules}
use Rattle.columns.proofs.FourBytes.{number_same}
use Rattle.columns.proofs.fours.same.Goals as goal

pub returns : goal.returns
returns c =
    let a : (i : ℕ) → get_or c.args.a i 0 < 256 = search rules in
    let b : (i : ℕ) → get_or c.args.b i 0 < 256 = search rules in
    rw (c.from_le_bytes.ensures, c.from_le_bytes-2.ensures) (number_same c.args.a c.args.b a b)
