-- `unwind::unwind_relaxed_table` meets its contract.
use Rattle.unwind.proofs.Delivering.{exports}
use Rattle.unwind.proofs.unwind_relaxed_table.Goals as goal

pub returns : goal.returns
returns c = exports c.from.ensures c.relaxed_table.ensures
