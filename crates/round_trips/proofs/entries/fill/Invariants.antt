use Rattle.std.proofs.Common.{◌≡◌, ◌-◌, length}
use Rattle.round_trips.proofs.Cursor.{Filling}
use Rattle.round_trips.proofs.entries.fill.Given as goal

abbrev pub invariant-loop-entry : goal.invariant-loop-entry
invariant-loop-entry l = Filling l.debug l.section l.initial.out l.out l.i l.cursor.at × (l.cursor.section.now ≡ l.section)

abbrev pub decreases-loop-entry : goal.decreases-loop-entry
decreases-loop-entry l = length l.section - l.cursor.at
