-- Four bytes are put in the place of the first. Assumes nothing.
use Rattle.std.proofs.Common.{◌≡◌, length, rules}
use Rattle.written_line.proofs.ClearedColumns.{word-put}
use Rattle.written_line.proofs.set_word.Goals as goal

pub returns : goal.returns
returns c =
    let four : length c.args.t.now ≡ 4 = search rules in
    rw c.copy_from_slice.ensures.after (word-put _ _ c.requires four)
