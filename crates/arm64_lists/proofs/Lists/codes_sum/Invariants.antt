use Rattle.arm64.specs.Writer.{codes_in}
use Rattle.arm64_lists.proofs.Totals.{Adding}
use Rattle.arm64_lists.proofs.Lists.codes_sum.Given as goal

abbrev pub invariant-loop-k : goal.invariant-loop-k
invariant-loop-k l = Adding (codes_in l.self.functions.now l.self.epilogues.now) 0 l.n 0 l.k l.sum
