use Rattle.std.proofs.Common.{◌≡◌, length, [], ◌∷◌, append-nil, rules}
use Rattle.std.proofs.lemmas.List.{take_at, drop_at}
use Rattle.steps.proofs.values.values_of.Goals as goal

pub returns : goal.returns
returns c =
    let sixteen : length c.args.registers ≡ 16 = search rules in
    rw (c.copy_from_slice.ensures.after, c.copy_from_slice-2.ensures.after, take_at c.args.registers (0 ∷ 0 ∷ []) 16 sixteen, drop_at c.args.registers (0 ∷ 0 ∷ []) 16 sixteen, append-nil)
