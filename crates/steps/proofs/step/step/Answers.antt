use Rattle.steps.proofs.InstructionSteps.{divisor, load-room, stor-room, stop-stepped, setc-stepped, copy-stepped, addw-stepped, subw-stepped, mulw-stepped, divf-stepped, load-stepped, stor-stepped, jump-stepped, bltu-stepped, bequ-stepped, divm-divisor, divm-stepped, steppable-as, stepped-as}
use Rattle.std.proofs.Common.{refl, rules}
use Rattle.steps.proofs.step.step.Goals as goal

pub compute-requires-in-Divf-clause-callable : goal.compute-requires-in-Divf-clause-callable
compute-requires-in-Divf-clause-callable c =
    let h = steppable-as c.in-Divf.is c.requires in
    divisor _ _ _ h.values _ _ _ h.safe

pub load_to-requires : goal.load_to-requires
load_to-requires c =
    let h = steppable-as c.in-Load.is c.requires in
    (h.point, h.limited.0, h.limited.1.variable, load-room _ _ _ h.values _ _ _ _ _ _ h.safe)

pub store_from-requires : goal.store_from-requires
store_from-requires c =
    let h = steppable-as c.in-Stor.is c.requires in
    (h.point, h.limited.0, h.limited.1.variable, stor-room _ _ _ h.values _ _ _ _ _ h.safe)

pub divide_whole-requires : goal.divide_whole-requires
divide_whole-requires c =
    let h = steppable-as c.in-Divm.is c.requires in
    (h.point, h.limited.arithmetic.register, h.limited.arithmetic.variable, h.limited.register, h.limited.arithmetic.operand, divm-divisor _ _ _ h.values _ _ _ _ h.safe)

pub returns-in-Stop : goal.returns-in-Stop
returns-in-Stop c =
    stepped-as c.in-Stop.is (stop-stepped _ _ _ c.requires.values)

pub returns-in-Setc : goal.returns-in-Setc
returns-in-Setc c =
    let e = c.in-Setc.is in
    let h = steppable-as e c.requires in
    stepped-as e (setc-stepped _ _ _ h.values _ _ h.limited.0 c.put.ensures refl)

pub returns-in-Copy : goal.returns-in-Copy
returns-in-Copy c =
    let e = c.in-Copy.is in
    let h = steppable-as e c.requires in
    stepped-as e (copy-stepped _ _ _ h.values _ _ h.limited.0 c.copy.ensures refl)

pub returns-in-Addw : goal.returns-in-Addw
returns-in-Addw c =
    let e = c.in-Addw.is in
    let h = steppable-as e c.requires in
    stepped-as e (addw-stepped _ _ _ h.values _ _ _ h.limited.register c.compute.ensures.2 (search rules))

pub returns-in-Subw : goal.returns-in-Subw
returns-in-Subw c =
    let e = c.in-Subw.is in
    let h = steppable-as e c.requires in
    stepped-as e (subw-stepped _ _ _ h.values _ _ _ h.limited.register c.compute-in-Subw.ensures.2 (search rules))

pub returns-in-Mulw : goal.returns-in-Mulw
returns-in-Mulw c =
    let e = c.in-Mulw.is in
    let h = steppable-as e c.requires in
    stepped-as e (mulw-stepped _ _ _ h.values _ _ _ h.limited.register c.compute-in-Mulw.ensures.2 (search rules))

pub returns-in-Divf : goal.returns-in-Divf
returns-in-Divf c =
    let e = c.in-Divf.is in
    let h = steppable-as e c.requires in
    stepped-as e (divf-stepped _ _ _ h.values _ _ _ h.limited.register (divisor _ _ _ h.values _ _ _ h.safe) c.compute-in-Divf.ensures.2 (search rules))

pub returns-in-Load : goal.returns-in-Load
returns-in-Load c =
    let e = c.in-Load.is in
    let h = steppable-as e c.requires in
    stepped-as e (load-stepped _ _ _ h.values _ _ _ _ _ _ h.limited.0 (load-room _ _ _ h.values _ _ _ _ _ _ h.safe) c.load_to.ensures refl)

pub returns-in-Stor : goal.returns-in-Stor
returns-in-Stor c =
    let e = c.in-Stor.is in
    let h = steppable-as e c.requires in
    rw (c.store_from.ensures.0, c.store_from.ensures.1) (stepped-as e (stor-stepped _ _ _ h.values _ _ _ _ _ (stor-room _ _ _ h.values _ _ _ _ _ h.safe)))

pub returns-in-Jump : goal.returns-in-Jump
returns-in-Jump c =
    let e = c.in-Jump.is in
    let h = steppable-as e c.requires in
    stepped-as e (jump-stepped _ _ _ h.values _)

pub returns-in-Bltu : goal.returns-in-Bltu
returns-in-Bltu c =
    let e = c.in-Bltu.is in
    let h = steppable-as e c.requires in
    stepped-as e (bltu-stepped _ _ _ h.values _ _ _ (search rules) c.branch-values.ensures.2)

pub returns-in-Bequ : goal.returns-in-Bequ
returns-in-Bequ c =
    let e = c.in-Bequ.is in
    let h = steppable-as e c.requires in
    stepped-as e (bequ-stepped _ _ _ h.values _ _ _ (search rules) c.branch-values-in-Bequ.ensures.2)

pub returns-in-Divm : goal.returns-in-Divm
returns-in-Divm c =
    let e = c.in-Divm.is in
    let h = steppable-as e c.requires in
    rw (c.divide_whole.ensures.point, c.divide_whole.ensures.values) (stepped-as e (divm-stepped _ _ _ h.values _ _ _ _ h.limited.arithmetic.register h.limited.register (divm-divisor _ _ _ h.values _ _ _ _ h.safe)))
