use mathlib.Core.Path.{◌≡◌}
use Rattle.records.specs.Written.{pairs_of}
use Rattle.records.proofs.StepLoops.{Relocating}
use Rattle.records.proofs.step_relocs.Given as goal

abbrev pub invariant-loop-k : goal.invariant-loop-k
invariant-loop-k l =
    Relocating l.initial.out l.out l.run.word l.place l.run.rows.now l.run.at l.run.n (pairs_of l.initial.pairs) l.i l.k l.from l.p l.q
    × (pairs_of l.pairs ≡ pairs_of l.initial.pairs)
