-- `dwarf::pairs_ok` meets its contract.
use Rattle.format.specs.Questions.{pairs_ok}
use Rattle.lists.specs.Extents.{meant_labels, meant}
use Rattle.dwarf.proofs.pairs_ok.Goals as goal

pub pairs_differ-requires : goal.pairs_differ-requires
pairs_differ-requires c = rw c.in-Some.is at c.requires

pub returns-in-Some : goal.returns-in-Some
unfolding pairs_ok meant meant_labels
returns-in-Some c = rw c.in-Some.is c.pairs_differ.ensures

pub returns-in-None : goal.returns-in-None
unfolding pairs_ok meant meant_labels
returns-in-None c = rw c.in-None.is
