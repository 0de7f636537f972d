use Rattle.x64.proofs.Asked.{Passing}
use Rattle.x64.specs.Sources.{length_at, rows_at, codes_at}
use Rattle.x64.proofs.given.Input.asks.Given as goal

abbrev pub invariant-loop-k : goal.invariant-loop-k
invariant-loop-k l = Passing (length_at l.self.source l.self.functions.now) l.self.count l.k

abbrev pub invariant-loop-k-2 : goal.invariant-loop-k-2
invariant-loop-k-2 l = Passing (rows_at l.self.source l.self.functions.now l.self.list.now) l.self.count l.k

abbrev pub invariant-loop-k-3 : goal.invariant-loop-k-3
invariant-loop-k-3 l = Passing (codes_at l.self.source l.self.functions.now l.self.list.now) l.self.count l.k
