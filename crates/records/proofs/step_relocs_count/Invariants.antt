use mathlib.Core.Path.{◌≡◌}
use Rattle.records.specs.Written.{pairs_of}
use Rattle.records.proofs.StepLoops.{Tallying}
use Rattle.records.proofs.step_relocs_count.Given as goal

abbrev pub invariant-loop-k : goal.invariant-loop-k
invariant-loop-k l =
    Tallying l.run.rows.now l.run.at l.run.n (pairs_of l.initial.pairs) l.k l.from l.size × (pairs_of l.pairs ≡ pairs_of l.initial.pairs)
