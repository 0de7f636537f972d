-- `x64_back::undo::Registers::with_halves` meets its contract.
use mathlib.Core.Path.{refl}
use Rattle.x64_back.specs.Thread.{with_halves}
use Rattle.x64_back.proofs.undo.Registers.with_halves.Goals as goal

pub returns : goal.returns
unfolding with_halves
returns c = refl
