-- `dwarf::Counted::deliver` meets its contract.
use native.Mathlib.Omega.{arith}
use Rattle.dwarf.proofs.Passed.{counted}
use Rattle.dwarf.proofs.Counted.deliver.Goals as goal

pub answered_with-requires-2 : goal.answered_with-requires-2
answered_with-requires-2 c =
    ((counted _ c.args.self.now.sums).functions_at_most, omega arith, omega arith, omega arith)
