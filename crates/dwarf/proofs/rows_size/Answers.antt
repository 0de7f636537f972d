-- `dwarf::rows_size` meets its contract.
use Rattle.dwarf.proofs.Sizing.{rows_ready}
use Rattle.dwarf.proofs.rows_size.Goals as goal

pub function-e-requires : goal.function-e-requires
function-e-requires c = c.requires.0

pub invariant_of-run : goal.invariant_of-run
invariant_of-run c = record { ready = rw c.function-e.ensures c.requires.1.ready }

pub stepped_rows_size-requires : goal.stepped_rows_size-requires
stepped_rows_size-requires c = rw c.function-e.ensures (rows_ready c.requires.1)

pub returns : goal.returns
returns c = rw c.function-e.ensures at c.stepped_rows_size.ensures
