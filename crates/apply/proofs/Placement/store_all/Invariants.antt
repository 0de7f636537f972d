use Rattle.apply.specs.Standing.{placed}
use Rattle.apply.proofs.Loops.{Placing}
use Rattle.apply.proofs.Placement.store_all.Given as goal

abbrev pub invariant-loop-i : goal.invariant-loop-i
invariant-loop-i l = Placing l.relocs (placed l.self) l.initial.copy l.copy l.i
