use Rattle.rules.proofs.Checking.{Checking}
use Rattle.rules.proofs.rows_check.Given as goal

abbrev pub invariant-loop-i : goal.invariant-loop-i
invariant-loop-i g l = Checking (goal.F-post g l.row) l.simple l.at l.n l.i l.o
