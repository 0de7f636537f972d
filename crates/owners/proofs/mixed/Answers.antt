-- `owners::mixed` meets its contract.
use native.Mathlib.Omega.{arith}
use Rattle.owners.specs.Chains.{mixed}
use Rattle.owners.proofs.mixed.Goals as goal

pub returns : goal.returns
unfolding mixed
returns c = (rw (← c.row_number.ensures.0), omega arith)
