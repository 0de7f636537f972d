-- `dwarf::Counted::answered_with` meets its contract.
use Rattle.dwarf.proofs.Passed.{counted}
use Rattle.dwarf.proofs.Working.{unused}
use Rattle.dwarf.proofs.Counted.answered_with.Goals as goal

pub answered-requires : goal.answered-requires
answered-requires g c =
    unused _ _ _ (counted _ c.args.self.now.sums).functions_at_most c.requires.2 c.requires.0
