-- `reads::index::header_place` meets its contract.
use Rattle.format.specs.Reader.{header_place}
use Rattle.reads.proofs.index.header_place.Goals as goal

pub returns-then-links : goal.returns-then-links
unfolding header_place
returns-then-links c = simp c.if-links.true c.addend_from.ensures
