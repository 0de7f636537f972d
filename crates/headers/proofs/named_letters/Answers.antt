-- `named_letters` stores the letters of a named personality.
use native.Mathlib.Omega.{arith}
use Rattle.format.specs.Prelude.{pick}
use Rattle.headers.specs.Kinds.{named_letters}
use Rattle.headers.proofs.named_letters.Goals as goal

pub text-requires : goal.text-requires
unfolding named_letters pick
text-requires c = omega (arith, rw c.if-lsda.true at c.requires)

pub returns-then-lsda : goal.returns-then-lsda
unfolding named_letters pick
returns-then-lsda c = rw c.if-lsda.true c.text.ensures

pub text-requires-2 : goal.text-requires-2
unfolding named_letters pick
text-requires-2 c = omega (arith, rw c.if-lsda.false at c.requires)

pub returns : goal.returns
unfolding named_letters pick
returns c = rw c.if-lsda.false c.text-2.ensures
