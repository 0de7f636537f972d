-- `dwarf::Entries::stored` meets its contract.
use Rattle.dwarf.proofs.Outcomes.{delivers}
use Rattle.dwarf.proofs.Entries.stored.Goals as goal

pub returns : goal.returns
returns c = (rw c.count-n.ensures (delivers _ _ _ _ _ c.requires c.store-t.ensures.0), c.store-t.ensures.1)
