use Rattle.records.proofs.RowLoops.{Sizing}
use Rattle.records.proofs.stepped_rows_size.Given as goal

abbrev pub invariant-loop-i : goal.invariant-loop-i
invariant-loop-i l = Sizing l.run.word l.run.rows.now l.run.at l.run.n l.i l.from l.size
