use Rattle.header_keys.specs.Inputs.{inputs_of}
use Rattle.owners.specs.Lent.{SameChains}
use Rattle.owners.proofs.OwnerLoop.{Going}
use Rattle.owners.proofs.owners.Given as goal

abbrev pub invariant-loop-k : goal.invariant-loop-k
invariant-loop-k l =
    Going (inputs_of l.x) l.n l.k l.initial.chains.heads.now l.initial.chains.links.now l.initial.chains.owners.now l.chains.heads.now l.chains.links.now l.chains.owners.now
    × SameChains l.initial.chains l.chains
