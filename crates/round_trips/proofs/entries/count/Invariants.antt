use Rattle.std.proofs.Common.{◌≡◌, ◌-◌, length}
use Rattle.round_trips.proofs.Cursor.{Counting}
use Rattle.round_trips.proofs.entries.count.Given as goal

abbrev pub invariant-loop-cursor : goal.invariant-loop-cursor
invariant-loop-cursor l = Counting l.section l.cursor.at l.n × (l.cursor.section.now ≡ l.section)

abbrev pub decreases-loop-cursor : goal.decreases-loop-cursor
decreases-loop-cursor l = length l.section - l.cursor.at
