use Rattle.header_keys.specs.Inputs.{inputs_of}
use Rattle.dwarf.proofs.Writing.{Going}
use Rattle.lists.specs.Lent.{SameLists}
use Rattle.dwarf.proofs.Entries.store.Given as goal

abbrev pub invariant-loop-k : goal.invariant-loop-k
invariant-loop-k l =
    (Going (inputs_of l.self.input.now) l.functions l.k l.t l.initial.to.places.now l.to.places.now l.initial.to.bytes.now l.to.bytes.now l.initial.to.relocations.now l.to.relocations.now l.initial.to.sites.now l.to.sites.now) × SameLists l.initial.to l.to
