use Rattle.arm64_simple.specs.Steps.{steps_left}
use Rattle.arm64_packing.specs.Places.{placed, given}
use Rattle.arm64_packing.proofs.Comparing.{Matching}
use Rattle.arm64_packing.proofs.same_places.Given as goal

abbrev pub invariant-places : goal.invariant-places
invariant-places l = Matching (given l.run.list.now l.run.run) (placed l.part l.w.fields) (steps_left l.steps) l.i
