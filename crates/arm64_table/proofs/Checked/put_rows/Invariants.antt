use Rattle.arm64_function.specs.Listed.{function_in}
use Rattle.arm64_table.proofs.Loops.{Rowing}
use Rattle.arm64_table.proofs.Checked.put_rows.Given as goal

abbrev pub invariant-loop-k : goal.invariant-loop-k
invariant-loop-k l = Rowing (function_in l.self.functions.lists) l.self.functions.count l.initial.bytes l.bytes l.initial.relocations l.relocations l.k l.to
