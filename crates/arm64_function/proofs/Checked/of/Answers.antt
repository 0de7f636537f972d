-- `Checked::of` meets its contract.
use native.Mathlib.Omega.{arith}
use Rattle.arm64_function.proofs.Taken.{whole_taken}
use Rattle.arm64_function.proofs.Checked.of.Goals as goal

pub invariant_of-result : goal.invariant_of-result
invariant_of-result c = record { whole = whole_taken c.of.ensures c.requires (omega arith) }
