-- `reads::unwind_index` meets its contract.
use Rattle.reads.proofs.Indexing.{index_unasked, index_asked}
use Rattle.reads.specs.Places.{asked}
use Rattle.reads.proofs.unwind_index.Goals as goal

pub returns-in_default : goal.returns-in_default
unfolding asked
returns-in_default c =
    let a = c.args in
    index_unasked a.section.now a.relocations.now a.kind a.word a.places.now (rw c.in_default.is at c.section_of.ensures) c.from.ensures

pub returns : goal.returns
unfolding asked
returns c =
    let a = c.args in
    let d = rw c.in-Some.is at c.section_of.ensures in
    index_asked a.section.now a.relocations.now a.kind a.word a.places.now d.2.0 c.from-2.ensures (rw (c.links.ensures.0, c.links.ensures.1, c.links.ensures.2, d.0, d.1, d.2.1) at c.index_in.ensures)
