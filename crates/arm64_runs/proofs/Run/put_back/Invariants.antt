use Rattle.arm64_runs.specs.Left.{codes_left}
use Rattle.arm64_runs.proofs.Stores.{Backing}
use Rattle.arm64_runs.proofs.Run.put_back.Given as goal

abbrev pub invariant-loop-c : goal.invariant-loop-c
invariant-loop-c l = Backing (codes_left l.initial.self) (codes_left l.c-iterator) l.initial.out l.out l.i
