use Rattle.lists.proofs.Machines.{Copied}
use Rattle.lists.proofs.machine_of.Given as goal

abbrev pub invariant-loop-i : goal.invariant-loop-i
invariant-loop-i l = Copied l.ms l.map l.i
