use Rattle.reader.proofs.Reading.{Along}
use Rattle.walked.proofs.Marking.{Marking}
use Rattle.walked.proofs.mark_all.Given as goal

abbrev pub invariant-loop-read : goal.invariant-loop-read
invariant-loop-read l = Along l.ops l.word (λ at. Marking l.word l.ops l.initial.m.named l.m.named at) l.read-iterator
