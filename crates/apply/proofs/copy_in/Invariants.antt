use Rattle.std.proofs.Common.{drop}
use Rattle.format.proofs.Storing.{Storing}
use Rattle.apply.proofs.copy_in.Given as goal

abbrev pub invariant-loop-i : goal.invariant-loop-i
invariant-loop-i l = Storing l.initial.out l.out 0 l.i l.bytes (drop l.i l.bytes)
