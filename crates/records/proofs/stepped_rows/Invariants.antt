use Rattle.records.proofs.RowLoops.{Writing}
use Rattle.records.proofs.stepped_rows.Given as goal

abbrev pub invariant-loop-i : goal.invariant-loop-i
invariant-loop-i l = Writing l.initial.out l.out l.run.word l.run.rows.now l.at l.run.at l.run.n l.i l.from l.p
