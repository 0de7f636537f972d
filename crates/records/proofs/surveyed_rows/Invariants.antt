use Rattle.records.proofs.SurveyLoops.{Surveying}
use Rattle.records.proofs.surveyed_rows.Given as goal

abbrev pub invariant-loop-i : goal.invariant-loop-i
invariant-loop-i l = Surveying l.word l.rows l.first l.n l.i l.from l.size
