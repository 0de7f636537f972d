use mathlib.Core.Path.{◌≡◌}
use Prim.Native.Nat.{◌+◌}
use Rattle.format.specs.X64.{slots}
use Rattle.x64.specs.Given.{codes_by, codes_left}
use Rattle.x64.proofs.given.Span.slots.Given as goal

abbrev pub invariant-loop-c : goal.invariant-loop-c
invariant-loop-c l = slots (codes_by l.self) ≡ l.held + slots (codes_left l.c-iterator)
