use Rattle.header_keys.specs.Inputs.{inputs_of}
use Rattle.dwarf.proofs.Surveying.{Surveying}
use Rattle.dwarf.proofs.Counted.survey.Given as goal

abbrev pub invariant-loop-k : goal.invariant-loop-k
invariant-loop-k l = Surveying (inputs_of l.self.input.now) l.n l.k l.t l.initial.chains.heads.now l.initial.chains.links.now l.initial.chains.owners.now l.chains.heads.now l.chains.links.now l.chains.owners.now
