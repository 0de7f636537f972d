use Rattle.reads.proofs.Passing.{Holding, holding_pc}
use Rattle.reads.proofs.addresses.Loaded.holder_in.Given as goal

abbrev pub invariant-loop-k : goal.invariant-loop-k
invariant-loop-k l =
    let x = l.self in
    Holding x.section.bytes.now x.section.layout.debug (holding_pc x.section.bytes.now x.section.layout.debug x.section.layout.word x.address l.pc) l.k-iterator.count l.k-iterator.iter
