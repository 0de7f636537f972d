use Rattle.operations.proofs.FieldLoop.{Reading}
use Rattle.operations.proofs.fields.read_le.Given as goal

abbrev pub invariant-loop-i : goal.invariant-loop-i
invariant-loop-i l = Reading l.s l.from l.n l.i l.acc
