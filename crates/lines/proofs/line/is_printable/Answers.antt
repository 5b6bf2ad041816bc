use Rattle.std.proofs.Common.{◌<◌, arith}
use Rattle.lines.proofs.PrintableBytes.{printable-from-space}
use Rattle.lines.proofs.line.is_printable.Goals as goal

pub returns : goal.returns
returns c =
    let small : c.wrapping_sub_u8.result < 256 = omega arith in
    printable-from-space _ _ small c.wrapping_sub_u8.ensures.value
