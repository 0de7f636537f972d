use Rattle.std.proofs.Common.{◌≡◌, length, reverse}
use Rattle.cfi_rules.specs.Registers.{total, back}
use Rattle.cfi_rules.specs.Log.{stored_of}
use Rattle.cfi_rules.proofs.run.undo.Given as goal

-- taking a change back leaves what is stored last, and the room that is taken is the log's length
abbrev pub invariant-loop-entry : goal.invariant-loop-entry
invariant-loop-entry l =
    (back (stored_of l.initial.rules (reverse l.initial.log)) ≡ back (stored_of l.rules (reverse l.log)))
    × (total (stored_of l.rules (reverse l.log)) ≡ length l.log)

abbrev pub decreases-loop-entry : goal.decreases-loop-entry
decreases-loop-entry l = length l.log
