use Prim.Native.Nat.{◌<◌, ◌^◌}
use Rattle.format.proofs.Storing.{Storing}
use Rattle.leb.specs.Groups.{groups}
use Rattle.leb.proofs.groups.Given as goal

abbrev pub invariant-loop-x : goal.invariant-loop-x
invariant-loop-x g l = (l.x < 2 ^ 64) × Storing l.initial.out l.out l.at l.i (groups g.row.END l.neg l.m) (groups g.row.END l.neg l.x)

abbrev pub decreases-loop-x : goal.decreases-loop-x
decreases-loop-x g l = l.x
