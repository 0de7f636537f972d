-- `cfi_rules::run::start` meets its contract.
use Rattle.std.proofs.Common.{refl}
use Rattle.cfi_rules.specs.Registers.{total}
use Rattle.cfi_rules.specs.Log.{stored_of}
use Rattle.cfi_rules.proofs.run.start.Goals as goal

pub invariant_of-result : goal.invariant_of-result
unfolding stored_of total
invariant_of-result c = rw c.new.ensures (record { counted = refl; filled = refl })

pub returns : goal.returns
unfolding stored_of
returns c = rw c.new.ensures refl
