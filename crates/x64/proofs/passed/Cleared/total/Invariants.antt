use Rattle.x64.proofs.Results.{Summing}
use Rattle.x64.specs.Sources.{found_at}
use Rattle.x64.proofs.passed.Cleared.total.Given as goal

abbrev pub invariant-loop-k : goal.invariant-loop-k
invariant-loop-k l = let x = l.self.input in Summing (found_at x.source x.functions.now x.list.now) x.count l.k l.sum
