-- `operations::fields::past` meets its contract.
use Rattle.std.proofs.Common.{rules}
use Rattle.operations.specs.Positions.{past}
use Rattle.operations.proofs.fields.past.Goals as goal
use borrow.Author.Tests.{tests}

pub returns-then-at : goal.returns-then-at
unfolding past
returns-then-at c = search (rules, tests)

pub returns-else-at : goal.returns-else-at
unfolding past
returns-else-at c = search (rules, tests)
