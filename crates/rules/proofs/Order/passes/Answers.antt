-- `rules::Order::passes` meets its contract.
use mathlib.Core.Path.{◌∙◌}
use Rattle.rules.proofs.Ordering.{passed_on}
use Rattle.rules.proofs.Order.passes.Goals as goal

pub returns : goal.returns
returns c = c.then_some.ensures ∙ passed_on c.args.ok c.args.self c.args.first c.args.framed _ _
