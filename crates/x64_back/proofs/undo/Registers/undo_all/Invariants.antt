use Rattle.walk.specs.Standing.{memory_of}
use Rattle.x64_reader.proofs.Runs.{Reading}
use Rattle.x64_back.proofs.Undoing.{Undoing}
use Rattle.x64_back.proofs.undo.Registers.undo_all.Given as goal

abbrev pub invariant-loop-code : goal.invariant-loop-code
invariant-loop-code l = Reading (Undoing (memory_of l.memory) l.base l.fn.self l.before) l.frame l.slots l.code-iterator
