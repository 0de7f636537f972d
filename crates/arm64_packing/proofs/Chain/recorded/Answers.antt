-- `Chain::recorded` meets its contract.
use mathlib.Core.Path.{sym, ap}
use Prim.Native.Nat.{ℕ}
use lib.Dec.{eqb}
use Rattle.format.specs.Prelude.{pick}
use Rattle.arm64_packing.specs.Places.{chain_number}
use Rattle.arm64_packing.proofs.CountsLaws.{recorded_other}
use Rattle.arm64_packing.proofs.Chain.recorded.Goals as goal

pub returns-in-Signed : goal.returns-in-Signed
unfolding pick
returns-in-Signed c = sym (ap (λ h. pick {X = ℕ} (eqb (chain_number h) 2) 2 3) c.in-Signed.is)

pub returns-in_default : goal.returns-in_default
returns-in_default c = recorded_other c.args.self c.in_default.not-Signed
