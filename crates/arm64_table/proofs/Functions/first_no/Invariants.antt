use Rattle.arm64_function.specs.Listed.{function_in}
use Rattle.arm64_table.proofs.Loops.{Asking}
use Rattle.arm64_table.proofs.Functions.first_no.Given as goal

abbrev pub invariant-loop-k : goal.invariant-loop-k
invariant-loop-k l = Asking (function_in l.self.lists) l.self.count l.k
