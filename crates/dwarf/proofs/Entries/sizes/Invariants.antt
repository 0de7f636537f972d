use Rattle.header_keys.specs.Inputs.{inputs_of}
use Rattle.dwarf.proofs.Sizing.{Sizing}
use Rattle.dwarf.proofs.Entries.sizes.Given as goal

abbrev pub invariant-loop-k : goal.invariant-loop-k
invariant-loop-k l = Sizing (inputs_of l.self.input.now) l.n l.k l.t
