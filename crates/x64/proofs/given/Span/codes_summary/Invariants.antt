use Prim.Native.Nat.{◌+◌, ◌*◌, ◌≤◌}
use lib.ListN.{length}
use Rattle.format.specs.Lists.{most_records}
use Rattle.x64.specs.Given.{codes_by, codes_left}
use Rattle.x64.proofs.Walks.{Summing}
use Rattle.x64.proofs.given.Span.codes_summary.Given as goal

abbrev pub invariant-loop-c : goal.invariant-loop-c
invariant-loop-c l =
    Summing (codes_by l.self) (codes_left l.c-iterator) l.t × (l.t.slots + 3 * length (codes_left l.c-iterator) ≤ 3 * most_records)
