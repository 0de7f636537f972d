use Rattle.x64_reader.proofs.Runs.{Reading, Storing}
use Rattle.x64_reader.proofs.store.Given as goal

abbrev pub invariant-loop-code : goal.invariant-loop-code
invariant-loop-code l = Reading (Storing l.n l.left l.initial.codes l.codes) l.frame l.s l.code-iterator
