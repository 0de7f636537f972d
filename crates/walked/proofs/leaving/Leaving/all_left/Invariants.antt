use Rattle.walk.specs.Walk.{left_by}
use Rattle.walk.specs.Standing.{memory_of, slots}
use Rattle.walk.proofs.Turns.{Turning}
use Rattle.walked.specs.Standing.{rules_at}
use Rattle.walked.proofs.leaving.Leaving.all_left.Given as goal

abbrev pub invariant-loop-i : goal.invariant-loop-i
invariant-loop-i l = Turning (λ reg. left_by (memory_of l.self.memory) l.fn.cfa (slots l.self.registers) reg ((rules_at l.self.at).rules reg)) l.registers l.i
