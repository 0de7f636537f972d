-- `rules::Order::start` meets its contract.
use mathlib.Core.Path.{refl}
use Rattle.format.specs.Prelude.{pick}
use Rattle.format.specs.RowCheck.{row_check}
use Rattle.rules.specs.Orders.{leaders_ok, follow}
use Rattle.rules.proofs.Order.start.Goals as goal

pub returns : goal.returns
unfolding pick row_check leaders_ok follow
returns c = record { whole = λ xs. refl }
