-- `arm64_table::unwind_arm64` meets its contract.
use Rattle.unwind.proofs.Delivering.{exports}
use Rattle.arm64_table.proofs.unwind_arm64.Goals as goal

pub returns : goal.returns
returns c = exports c.from.ensures c.table.ensures
