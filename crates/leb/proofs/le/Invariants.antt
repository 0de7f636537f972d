use Prim.Native.Nat.{◌+◌, ◌-◌}
use Rattle.format.specs.Leb.{little}
use Rattle.format.proofs.Storing.{Storing}
use Rattle.leb.proofs.le.Given as goal

abbrev pub invariant-loop-i : goal.invariant-loop-i
invariant-loop-i l = Storing l.initial.out l.out l.at l.i (little l.n l.v) (little (l.at + l.n - l.i) l.x)
