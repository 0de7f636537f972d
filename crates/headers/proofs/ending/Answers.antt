-- `ending` stores the signal mark and the string's end.
use native.Mathlib.Omega.{arith}
use Rattle.format.specs.Prelude.{pick}
use Rattle.headers.specs.Kinds.{ending}
use Rattle.headers.proofs.ending.Goals as goal

pub text-requires : goal.text-requires
unfolding ending pick
text-requires c = omega (arith, rw c.if-signal.true at c.requires)

pub returns-then-signal : goal.returns-then-signal
unfolding ending pick
returns-then-signal c = rw c.if-signal.true c.text.ensures

pub text-requires-2 : goal.text-requires-2
unfolding ending pick
text-requires-2 c = omega (arith, rw c.if-signal.false at c.requires)

pub returns : goal.returns
unfolding ending pick
returns c = rw c.if-signal.false c.text-2.ensures
