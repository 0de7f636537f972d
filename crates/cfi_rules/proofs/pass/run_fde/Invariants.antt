use Rattle.std.proofs.Common.{length, ◌-◌}
use Rattle.cfi_rules.specs.States.{run_of}
use Rattle.cfi_rules.proofs.PassLaws.{FdeGoing}
use Rattle.cfi_rules.proofs.pass.run_fde.Given as goal

abbrev pub invariant-loop-at : goal.invariant-loop-at
invariant-loop-at l =
    FdeGoing l.units l.fn.function l.fn.asked l.bytes l.fn.from (run_of l.initial.s) l.at l.location (run_of l.s)

abbrev pub decreases-loop-at : goal.decreases-loop-at
decreases-loop-at l = length l.bytes - l.at
