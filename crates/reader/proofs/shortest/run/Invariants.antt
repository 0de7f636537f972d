use Rattle.reader.proofs.Reading.{Along}
use Rattle.reader.proofs.Marks.{Left}
use Rattle.reader.proofs.shortest.run.Given as goal

abbrev pub invariant-operations : goal.invariant-operations
invariant-operations l = Along l.s l.word (λ at. Left l.s l.word l.p at l.loc) l.read-iterator
