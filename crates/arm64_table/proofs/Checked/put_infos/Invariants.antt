use Rattle.arm64_function.specs.Listed.{function_in}
use Rattle.arm64_table.proofs.Loops.{Describing}
use Rattle.arm64_table.proofs.Checked.put_infos.Given as goal

abbrev pub invariant-loop-k : goal.invariant-loop-k
invariant-loop-k l = Describing (function_in l.self.functions.lists) l.self.functions.count l.initial.markers l.markers l.initial.info l.info l.k l.at
