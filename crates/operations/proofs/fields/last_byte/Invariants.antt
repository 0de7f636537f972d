use Rattle.operations.proofs.GroupLoop.{Reading}
use Rattle.operations.proofs.fields.last_byte.Given as goal

abbrev pub invariant-loop-i : goal.invariant-loop-i
invariant-loop-i l = Reading l.s l.at l.i l.scale l.acc
