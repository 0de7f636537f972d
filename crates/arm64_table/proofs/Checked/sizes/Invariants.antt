use Rattle.arm64_function.specs.Listed.{function_in}
use Rattle.arm64_table.proofs.Loops.{Summing}
use Rattle.arm64_table.proofs.Checked.sizes.Given as goal

abbrev pub invariant-loop-k : goal.invariant-loop-k
invariant-loop-k l = Summing (function_in l.self.functions.lists) l.self.functions.count l.k l.info l.relocations
