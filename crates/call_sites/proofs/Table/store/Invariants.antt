use Rattle.call_sites.proofs.Runs.{Reading, Storing}
use Rattle.call_sites.proofs.Table.store.Given as goal

abbrev pub invariant-loop-read : goal.invariant-loop-read
invariant-loop-read l = Reading (Storing l.at l.initial.held l.held) l.self.entries.now l.self.shortest l.read-iterator
