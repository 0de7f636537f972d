use Rattle.walk.proofs.Files.{Filling}
use Rattle.walk.proofs.registers.Given as goal

abbrev pub invariant-loop-i : goal.invariant-loop-i
invariant-loop-i l = Filling l.file l.at l.count l.registers l.i
