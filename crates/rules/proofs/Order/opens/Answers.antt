-- `rules::Order::opens` meets its contract.
use Rattle.rules.proofs.Ordering.{full, remembered}
use Rattle.rules.proofs.Order.opens.Goals as goal

pub returns-then-depth-ge16 : goal.returns-then-depth-ge16
returns-then-depth-ge16 c = λ first. full c.args.self first c.if-depth-ge16.true

pub returns : goal.returns
returns c = λ first. remembered c.args.self first c.if-depth-ge16.false
