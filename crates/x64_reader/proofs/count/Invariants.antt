use Rattle.x64_reader.proofs.Runs.{Reading, Counting}
use Rattle.x64_reader.proofs.count.Given as goal

abbrev pub invariant-loop-code : goal.invariant-loop-code
invariant-loop-code l = Reading (Counting l.n l.framed l.code-iterator.at.at) l.frame l.s l.code-iterator
