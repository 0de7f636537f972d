-- `reader::section::Links::header_place` meets its contract.
use Rattle.format.specs.Reader.{header_place}
use Rattle.reader.proofs.section.Links.header_place.Goals as goal

pub returns-then-self : goal.returns-then-self
unfolding header_place
returns-then-self c = simp c.if-self.true c.first_addend.ensures

pub returns : goal.returns
unfolding header_place
returns c = simp c.if-self.false c.distance_back.ensures
