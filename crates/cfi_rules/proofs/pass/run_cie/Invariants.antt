use Rattle.std.proofs.Common.{length, ◌-◌}
use Rattle.cfi_rules.specs.States.{run_of}
use Rattle.cfi_rules.proofs.PassLaws.{CieGoing}
use Rattle.cfi_rules.proofs.pass.run_cie.Given as goal

abbrev pub invariant-loop-at : goal.invariant-loop-at
invariant-loop-at l = CieGoing l.units l.bytes l.fn.from (run_of l.initial.s) l.at (run_of l.s)

abbrev pub decreases-loop-at : goal.decreases-loop-at
decreases-loop-at l = length l.bytes - l.at
