-- `dwarf::pair_differs` meets its contract.
use native.Mathlib.Nat.{add-zero}
use Rattle.format.specs.Lists.{pair_at}
use Rattle.dwarf.proofs.pair_differs.Goals as goal

pub returns : goal.returns
unfolding pair_at
returns c = rw add-zero
