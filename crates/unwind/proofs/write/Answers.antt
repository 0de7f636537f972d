-- `unwind::write` meets its contract.
use Rattle.unwind.proofs.Delivering.{debug_beside, eh_beside}
use Rattle.unwind.proofs.write.Goals as goal

pub returns-then-debug : goal.returns-then-debug
returns-then-debug c = rw c.if-debug.true (debug_beside _ _ _ c.relaxed_debug_frame.ensures)

pub returns : goal.returns
returns c = rw c.if-debug.false (eh_beside _ _ c.relaxed_table.ensures)
