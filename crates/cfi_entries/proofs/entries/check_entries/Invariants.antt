use Rattle.std.proofs.Common.{length, ◌-◌}
use Rattle.cfi_entries.proofs.EntryLaws.{Walked}
use Rattle.cfi_entries.proofs.entries.check_entries.Given as goal

abbrev pub invariant-loop-at : goal.invariant-loop-at
invariant-loop-at l = Walked l.debug l.s l.n l.at

abbrev pub decreases-loop-at : goal.decreases-loop-at
decreases-loop-at l = length l.s - l.at
