-- `x64_back::undo::Registers::with_integer` meets its contract.
use mathlib.Core.Path.{refl}
use Rattle.x64_back.specs.Thread.{with_integer}
use Rattle.x64_back.proofs.undo.Registers.with_integer.Goals as goal

pub returns : goal.returns
unfolding with_integer
returns c = refl
