use mathlib.Core.Path.{◌≡◌}
use Prim.Native.Nat.{◌-◌}
use Rattle.x64.specs.Listed.{records_in}
use Rattle.x64.specs.Given.{codes_left}
use Rattle.x64.proofs.UnwindCodesIterator.next.Given as goal

abbrev pub invariant-loop-self : goal.invariant-loop-self
invariant-loop-self l = codes_left l.self ≡ codes_left l.initial.self

abbrev pub decreases-loop-self : goal.decreases-loop-self
decreases-loop-self l = records_in l.self.records - l.self.next
