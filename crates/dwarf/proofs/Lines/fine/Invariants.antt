use Rattle.dwarf.proofs.Lining.{Lining}
use Rattle.dwarf.proofs.Lines.fine.Given as goal

abbrev pub invariant-loop-i : goal.invariant-loop-i
invariant-loop-i l = Lining l.self.word l.self.rows.now l.self.at l.self.n l.from l.i
