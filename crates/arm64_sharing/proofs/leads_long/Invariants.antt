use Rattle.arm64.specs.Runs.{leads}
use Rattle.arm64_simple.specs.Steps.{steps_left}
use Rattle.arm64_simple.specs.Written.{written_in}
use Rattle.arm64_sharing.proofs.Comparing.{Agreeing}
use Rattle.arm64_sharing.proofs.leads_long.Given as goal

abbrev pub invariant-loop-s : goal.invariant-loop-s
invariant-loop-s l =
    Agreeing (leads (written_in l.run) (written_in l.other))
    l.other.list.now l.other.run l.run.run.count (steps_left l.s-iterator) l.j
