use Rattle.x64.specs.Given.{codes_by, codes_left}
use Rattle.x64.proofs.Walks.{Putting}
use Rattle.x64.proofs.passed.Passed.put_codes.Given as goal

abbrev pub invariant-loop-c : goal.invariant-loop-c
invariant-loop-c l = Putting l.initial.out l.out l.at l.to (codes_by l.self.span) (codes_left l.c-iterator)
