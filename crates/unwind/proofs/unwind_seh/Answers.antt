-- `unwind::unwind_seh` meets its contract.
use Rattle.unwind.proofs.Delivering.{exports}
use Rattle.unwind.proofs.unwind_seh.Goals as goal

pub returns : goal.returns
returns c = exports c.from.ensures c.seh.ensures
