-- A field by its case; what is blank or misshapen leaves the spaces. Assumes nothing.
use Rattle.written_line.proofs.ClearedColumns.{blank-stays, misshapen-stays, number-set}
use Rattle.written_line.proofs.set_field.Goals as goal

pub returns-in-Blank : goal.returns-in-Blank
returns-in-Blank c = rw c.in-Blank.is (blank-stays _ _ _ c.requires.1)

pub returns-in-Number : goal.returns-in-Number
returns-in-Number c =
    rw c.in-Number.is (number-set _ _ _ c.requires.1 _ _ _ c.set_digits.ensures.upper_bound c.set_digits.ensures.negative_after c.set_digits.ensures.same_before)

pub returns-in-Misshapen : goal.returns-in-Misshapen
returns-in-Misshapen c = rw c.in-Misshapen.is (misshapen-stays _ _ _ c.requires.1)
