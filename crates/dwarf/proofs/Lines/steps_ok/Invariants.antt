use Rattle.dwarf.proofs.Rows.{Stepping}
use Rattle.dwarf.proofs.Lines.steps_ok.Given as goal

abbrev pub invariant-loop-i : goal.invariant-loop-i
invariant-loop-i l = Stepping l.self.rows.now l.self.at l.self.n l.from l.i
