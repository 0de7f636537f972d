use Rattle.arm64.specs.Runs.{no_pair, simplify}
use Rattle.arm64_simple.specs.Saves.{saves}
use Rattle.arm64_simple.specs.Steps.{steps_left}
use Rattle.arm64_packing.proofs.Tallies.{Tallying}
use Rattle.arm64_packing.proofs.candidate.Given as goal

abbrev pub invariant-loop-s : goal.invariant-loop-s
invariant-loop-s l = Tallying (simplify no_pair (saves l.run.list.now l.run.run)) l.size l.run.run.count (steps_left l.s-iterator) l.counts
