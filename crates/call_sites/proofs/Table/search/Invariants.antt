use mathlib.Core.Path.{◌≡◌}
use Rattle.call_sites.proofs.Runs.{Reading, Covering}
use Rattle.call_sites.proofs.Table.search.Given as goal

abbrev pub invariant-loop-read : goal.invariant-loop-read
invariant-loop-read l = record {
  reading : Reading (Covering l.offset l.found) l.self.entries.now l.self.shortest l.read-iterator;
  mark : l.shortest ≡ l.read-iterator.at.shortest;
}
