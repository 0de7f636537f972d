use Rattle.x64.proofs.Results.{Describing}
use Rattle.x64.specs.Sources.{found_at}
use Rattle.x64.proofs.passed.Cleared.put_infos.Given as goal

abbrev pub invariant-loop-k : goal.invariant-loop-k
invariant-loop-k l = let x = l.self.input in Describing (found_at x.source x.functions.now x.list.now) x.count l.initial.markers l.markers l.initial.info l.info l.k l.at
