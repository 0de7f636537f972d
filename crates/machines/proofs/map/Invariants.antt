use mathlib.Core.Path.{◌≡◌}
use lib.ListN.{length}
use Rattle.machines.proofs.Stores.{Storing}
use Rattle.machines.proofs.map.Given as goal

abbrev pub invariant-loop-i : goal.invariant-loop-i
invariant-loop-i l = Storing l.initial.out l.numbers l.at l.out l.i × (length l.numbers ≡ 64)
