use lib.ListN.{length}
use Rattle.arm64.specs.Runs.{no_pair, simplify, backwards}
use Rattle.arm64_simple.specs.Saves.{saves}
use Rattle.arm64_simple.specs.Steps.{steps_left}
use Rattle.arm64_simple.proofs.Loops.{Sizing}
use Rattle.arm64_simple.proofs.Codes.size.Given as goal

abbrev pub invariant-loop-s : goal.invariant-loop-s
invariant-loop-s l =
    Sizing (length (backwards (simplify no_pair (saves l.self.list.now l.self.run)))) l.self.run.count (steps_left l.s-iterator) l.size
