use mathlib.Core.Path.{◌≡◌}
use Rattle.call_sites.proofs.Runs.{Reading, Counting}
use Rattle.call_sites.proofs.Table.count.Given as goal

abbrev pub invariant-loop-read : goal.invariant-loop-read
invariant-loop-read l = record {
  reading : Reading (Counting l.sites l.read-iterator.at.at) l.self.entries.now l.self.shortest l.read-iterator;
  mark : l.shortest ≡ l.read-iterator.at.shortest;
}
