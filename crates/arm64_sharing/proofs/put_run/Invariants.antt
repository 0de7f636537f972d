use Rattle.arm64.specs.Runs.{no_pair, simplify, backwards}
use Rattle.arm64_simple.specs.Saves.{saves}
use Rattle.arm64_simple.specs.Steps.{steps_left}
use Rattle.arm64_sharing.proofs.Storing.{Putting}
use Rattle.arm64_sharing.proofs.put_run.Given as goal

abbrev pub invariant-loop-s : goal.invariant-loop-s
invariant-loop-s l = Putting (backwards (simplify no_pair (saves l.run.list.now l.run.run))) l.initial.out l.out l.at l.to (steps_left l.s-iterator)
