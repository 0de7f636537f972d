use Rattle.x64.specs.Given.{codes_by, codes_left}
use Rattle.x64.proofs.Walks.{Framing}
use Rattle.x64.proofs.passed.Passed.frame_byte.Given as goal

abbrev pub invariant-loop-c : goal.invariant-loop-c
invariant-loop-c l = Framing (codes_by l.self.span) (codes_left l.c-iterator) l.b
