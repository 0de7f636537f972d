-- `group` turns the bits of a negative number.
use native.Mathlib.Omega.{arith}
use Rattle.format.specs.Leb.{bits7}
use Rattle.leb.proofs.group.Goals as goal

pub returns-then-neg : goal.returns-then-neg
unfolding bits7
returns-then-neg c = (rw c.if-neg.true, omega arith)

pub returns-else-neg : goal.returns-else-neg
unfolding bits7
returns-else-neg c = (rw c.if-neg.false, c.requires)
