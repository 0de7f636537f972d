-- `Chain::saved` meets its contract.
use mathlib.Core.Path.{sym, ap}
use Prim.Native.Nat.{ℕ}
use lib.Dec.{eqb}
use Rattle.format.specs.Prelude.{pick}
use Rattle.arm64_packing.specs.Places.{chain_number}
use Rattle.arm64_packing.proofs.CountsLaws.{saved_other}
use Rattle.arm64_packing.proofs.Chain.saved.Goals as goal

pub returns-in-Unchained : goal.returns-in-Unchained
unfolding pick
returns-in-Unchained c = sym (ap (λ h. pick {X = ℕ} (eqb (chain_number h) 0) 1 (chain_number h)) c.in-Unchained.is)

pub returns-in_default : goal.returns-in_default
returns-in_default c = saved_other c.args.self c.in_default.not-Unchained
