use Rattle.format.proofs.Storing.{Storing}
use Rattle.arm64.specs.Lists.{code_numbers}
use Rattle.arm64_runs.specs.Left.{codes_left}
use Rattle.arm64_runs.proofs.Run.put.Given as goal

abbrev pub invariant-loop-c : goal.invariant-loop-c
invariant-loop-c l = Storing l.initial.out l.out l.at l.i (code_numbers (codes_left l.initial.self)) (code_numbers (codes_left l.c-iterator))
