use Prim.Native.Nat.{◌*◌}
use Rattle.leb.proofs.Zeros.{Zeros}
use Rattle.leb.proofs.fill_by.Given as goal

abbrev pub invariant-loop-turn : goal.invariant-loop-turn
invariant-loop-turn g l = Zeros l.initial.out l.out l.at (g.row.N * l.turn)
