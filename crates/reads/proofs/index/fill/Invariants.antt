use Rattle.reader.proofs.Giving.{Over}
use Rattle.reads.specs.Standing.{stored_as}
use Rattle.reads.proofs.Indexing.{Filling}
use Rattle.reads.proofs.Marking.{Marking}
use Rattle.reads.proofs.index.fill.Given as goal

abbrev pub invariant-entries : goal.invariant-entries
invariant-entries l =
    Over l.links.bytes.now
    (λ at. Filling l.links.bytes.now l.links.debug l.links.relocations.now l.initial.places l.places l.from (stored_as l.last) l.i at × Marking l.links.bytes.now l.stretches.marks at)
    l.entry-iterator
