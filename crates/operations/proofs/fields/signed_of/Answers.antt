-- `signed_of` puts the sign back.
use Rattle.operations.proofs.Signs.{turned_is, plain_is}
use Rattle.format.proofs.Complements.{complement_fits}
use Rattle.operations.proofs.fields.signed_of.Goals as goal

pub overflow_sub-result : goal.overflow_sub-result
overflow_sub-result c = complement_fits c.args.m c.requires

pub returns-then-neg : goal.returns-then-neg
returns-then-neg c = rw c.if-neg.true (turned_is c.args.m c.requires)

pub returns-else-neg : goal.returns-else-neg
returns-else-neg c = rw c.if-neg.false (plain_is c.args.m c.requires)
